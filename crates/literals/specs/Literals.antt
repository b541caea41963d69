-- "Atoms: 64·offset + stream for a bool stream at offsets 0 to k; 576 + i for constraint i. A literal is 2·atom, plus 1 if
-- negated. A literal's opposite is the same atom with the other sign."
use Rattle.std.specs.Prelude.{ℕ, ◌+◌, ◌-◌, ◌*◌, ◌/◌, ◌%◌, Bool, cond, leb, eqb}

abbrev pub positive : (atom : ℕ) → ℕ
positive atom = 2 * atom

abbrev pub negative : (atom : ℕ) → ℕ
negative atom = 2 * atom + 1

abbrev pub atom_of : ℕ → ℕ
atom_of l = l / 2

abbrev pub is_negated : ℕ → Bool
is_negated l = eqb (l % 2) 1

abbrev pub opposite_of : ℕ → ℕ
opposite_of l = cond (is_negated l) (l - 1) (l + 1)

-- the atoms of constraints
abbrev pub is_constraint : (atom : ℕ) → Bool
is_constraint atom = leb 576 atom

abbrev pub constraint_number : (atom : ℕ) → ℕ
constraint_number atom = atom - 576
