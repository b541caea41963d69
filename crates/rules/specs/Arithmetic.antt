-- "Arithmetic: at least one literal, all on constraints. The opposites, times their multipliers (1 to 1,000,000), sum to
-- coefficient 0 at each variable and to a bound of at most −1."
use Rattle.std.specs.Prelude.{ℕ, zero, suc, [], ◌++◌, Bool, cond, ◌&&◌, leb, pos, neg_ℤ, ◌+ℤ◌, ◌*ℤ◌}
use Rattle.std.specs.Int.Signed.{le_z}
use Rattle.answers.specs.Checks.{every}
use Rattle.constraints.specs.Layout.{Constraint, Line, listed_in}
use Rattle.constraints.specs.Linear.{Bounded, coefficient, scaled, negated, bounded_of, same_z}
use Rattle.literals.specs.Literals.{atom_of, is_negated, is_constraint, constraint_number}

-- "their multipliers (1 to 1,000,000)"
abbrev pub is_multiplier : ℕ → Bool
is_multiplier m = leb 1 m && leb m 1000000

-- what the opposite of a literal on a constraint says: the constraint where the literal is negated, else its negation
abbrev pub opposite_says : (ℕ → Constraint) → (literal : ℕ) → Bounded
opposite_says constraints l =
    let c = bounded_of (constraints (constraint_number (atom_of l))) in
    cond (is_negated l) c (negated c)

-- the opposites of the first n literals, times their multipliers, added up
unfoldable pub sum_of : (ℕ → Constraint) → Line → (n : ℕ) → Bounded
sum_of constraints line zero = record { form = []; bound = pos 0 }
sum_of constraints line (suc j) =
    let c = opposite_says constraints (line.literal j) in
    let m = pos (line.multiplier j) in
    let rest = sum_of constraints line j in
    record { form = scaled m c.form ++ rest.form; bound = m *ℤ c.bound +ℤ rest.bound }

-- 20: kind 4 not as above. The variables of a certificate are below 576.
unfoldable pub arithmetic_ok : (ℕ → Constraint) → Line → Bool
arithmetic_ok constraints line =
    leb 1 (listed_in line)
    && every (λ j. is_constraint (atom_of (line.literal j))) (listed_in line)
    && every (λ x. same_z (coefficient (sum_of constraints line (listed_in line)).form x) (pos 0)) 576
    && le_z (sum_of constraints line (listed_in line)).bound (neg_ℤ (pos 1))
