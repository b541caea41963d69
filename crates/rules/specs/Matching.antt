-- One literal of a line against one of a clause, in the words of rule 17: "Literals equal the list below in its order, constraints
-- unnegated and compared by content", where "a written constraint matches if it is the defined one times one whole number of at least
-- 1, bound and coefficients alike".
use Rattle.std.specs.Prelude.{ℕ, ◌<◌, ◌≤◌, ◌≡◌, true, false, pos, ◌*ℤ◌}
use Rattle.constraints.specs.Layout.{Constraint}
use Rattle.constraints.specs.Linear.{Bounded, scaled, same_content, bounded_of as of_constraint}
use Rattle.literals.specs.Literals.{positive, negative, atom_of, is_negated, is_constraint, constraint_number}
use Rattle.rules.specs.declared.pattern.Linear.{Linear}
use Rattle.rules.specs.declared.pattern.Pattern.{Pattern}
use Rattle.rules.specs.declared.pattern.Pattern.TheVariants.{Yes, No, Most}
use Rattle.rules.specs.Clauses.{bounded_of}

-- a constraint times a whole number, "bound and coefficients alike"
abbrev pub multiplied : (factor : ℕ) → Bounded → Bounded
multiplied factor d = record { form = scaled (pos factor) d.form; bound = pos factor *ℤ d.bound }

-- "the defined one times one whole number of at least 1"
pub record MultipleOf (defined written : Bounded) : Type 0 where
  pub factor : ℕ
  pub least : 1 ≤ factor
  pub same : same_content written (multiplied factor defined) ≡ true

-- the literal is one of the m constraints, unnegated, and that matches d
pub record SaysMost (constraint : ℕ → Constraint) (m : ℕ) (d : Linear) (literal : ℕ) : Type 0 where
  pub unnegated : is_negated literal ≡ false
  pub on_constraint : is_constraint (atom_of literal) ≡ true
  pub listed : constraint_number (atom_of literal) < m
  pub multiple : MultipleOf (bounded_of d) (of_constraint (constraint (constraint_number (atom_of literal))))

abbrev pub Matches : (ℕ → Constraint) → (m : ℕ) → Pattern → (literal : ℕ) → Type 0
Matches constraint m (Yes x) literal = literal ≡ positive x
Matches constraint m (No x) literal = literal ≡ negative x
Matches constraint m (Most d) literal = SaysMost constraint m d literal
