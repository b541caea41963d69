-- "Atoms: 64·offset + stream for a bool stream at offsets 0 to k; 576 + i for constraint i": those of a certificate.
use Rattle.std.specs.Prelude.{ℕ, ◌/◌, ◌%◌, Bool, cond, ◌&&◌, leb, ltb, eqb}
use Rattle.literals.specs.Literals.{is_constraint, constraint_number}
use Rattle.constraints.specs.Rules.{Types}

-- the number names an atom, at depth k with m constraints
unfoldable pub names_atom : Types → (k m atom : ℕ) → Bool
names_atom types k m atom =
    cond (is_constraint atom) (ltb (constraint_number atom) m) (leb (atom / 64) k && eqb (types (atom % 64)) 0)
