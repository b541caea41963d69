-- What a literal, a clause and a line of a certificate say of a window of instants, given the values of its streams.
use Rattle.std.specs.Prelude.{ℕ, ◌<◌, ◌≡◌, Bool, true, cond, not, ◌&&◌, ◌||◌, leb, ℤ}
use Rattle.std.specs.Int.Signed.{le_z}
use Rattle.streams.specs.Values.{truth}
use Rattle.constraints.specs.Layout.{Constraint, Line, listed_in}
use Rattle.constraints.specs.Linear.{Bounded, total, bounded_of as of_constraint}
use Rattle.rules.specs.declared.pattern.Clause.{Clause}
use Rattle.rules.specs.declared.pattern.Pattern.{Pattern}
use Rattle.rules.specs.declared.pattern.Pattern.TheVariants.{Yes, No, Most}
use Rattle.rules.specs.Clauses.{bounded_of}
use Rattle.literals.specs.Literals.{atom_of, is_negated, is_constraint, constraint_number}

-- the values of a window: one whole number a variable, 64·offset + stream
abbrev pub Valuation : Type 0
Valuation = ℕ → ℤ

-- "sum of coefficient times value is at most bound"
abbrev pub is_bounded : Valuation → Bounded → Bool
is_bounded w c = le_z (total c.form w) c.bound

-- an atom is true: a bool stream at an offset is 1, or a constraint holds
unfoldable pub atom_true : (ℕ → Constraint) → Valuation → (atom : ℕ) → Bool
atom_true constraints w atom =
    cond (is_constraint atom) (is_bounded w (of_constraint (constraints (constraint_number atom)))) (truth (w atom))

unfoldable pub literal_true : (ℕ → Constraint) → Valuation → (literal : ℕ) → Bool
literal_true constraints w l =
    cond (is_negated l) (not (atom_true constraints w (atom_of l))) (atom_true constraints w (atom_of l))

-- a window satisfies a line: one of its literals is true
pub record Satisfies (constraints : ℕ → Constraint) (w : Valuation) (line : Line) : Type 0 where
  pub which : ℕ
  pub listed : which < listed_in line
  pub holds : literal_true constraints w (line.literal which) ≡ true

-- a literal of an operator's clause
unfoldable pub pattern_true : Valuation → Pattern → Bool
pattern_true w (Yes x) = truth (w x)
pattern_true w (No x) = not (truth (w x))
pattern_true w (Most d) = is_bounded w (bounded_of d)

-- a clause of one to three literals
unfoldable pub clause_true : Valuation → Clause → Bool
clause_true w c =
    pattern_true w c.first
    || not (leb c.count 1) && pattern_true w c.second
    || not (leb c.count 2) && pattern_true w c.third
