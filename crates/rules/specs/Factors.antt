-- The test of a match. An operator's constraints have 1 or −1 at their first variable or no terms at all, so the one factor that can
-- be right is read off the written constraint, and nothing is divided. That it passes where some factor is right, and only there, is
-- proved (proofs/Factors.antt, of a whole line proofs/Matches.antt).
use Rattle.std.specs.Prelude.{ℕ, suc, ◌-◌, Bool, cond, not, ◌&&◌, ltb, eqb, ℤ, pos, nat_abs}
use Rattle.constraints.specs.Layout.{Constraint}
use Rattle.constraints.specs.Linear.{Bounded, coefficient, same_z, same_content, bounded_of as of_constraint}
use Rattle.literals.specs.Literals.{positive, negative, atom_of, is_negated, is_constraint, constraint_number}
use Rattle.rules.specs.declared.pattern.Linear.{Linear}
use Rattle.rules.specs.declared.pattern.Pattern.{Pattern}
use Rattle.rules.specs.declared.pattern.Pattern.TheVariants.{Yes, No, Most}
use Rattle.rules.specs.Clauses.{bounded_of}
use Rattle.rules.specs.Matching.{multiplied}

-- a size, "at least 1"
abbrev pub factor_from : ℤ → ℕ
factor_from z = suc (nat_abs z - 1)

-- where the factor is read: at the first variable, or in the bound where the written constraint lacks that
abbrev pub read_off : (first bound : ℤ) → ℤ
read_off first bound = cond (same_z first (pos 0)) bound first

abbrev pub factor_read : (defined : Linear) (written : Bounded) → ℕ
factor_read d c = factor_from (read_off (coefficient c.form d.x) c.bound)

unfoldable pub is_multiple : (defined : Linear) (written : Bounded) → Bool
is_multiple d c = same_content c (multiplied (factor_read d c) (bounded_of d))

-- the literal is one of the m constraints, unnegated, and that is a multiple of d
unfoldable pub says_most : (ℕ → Constraint) → (m : ℕ) → Linear → (literal : ℕ) → Bool
says_most constraint m d literal =
    not (is_negated literal)
    && is_constraint (atom_of literal)
    && ltb (constraint_number (atom_of literal)) m
    && is_multiple d (of_constraint (constraint (constraint_number (atom_of literal))))

abbrev pub matches_of : (ℕ → Constraint) → (m : ℕ) → Pattern → (literal : ℕ) → Bool
matches_of constraint m (Yes x) literal = eqb literal (positive x)
matches_of constraint m (No x) literal = eqb literal (negative x)
matches_of constraint m (Most d) literal = says_most constraint m d literal
