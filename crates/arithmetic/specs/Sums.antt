-- The sums of a line as an array holds them: one entry a variable.
use Rattle.std.specs.Prelude.{ℕ, ◌+◌, ◌*◌, List, [], ◌∷◌, Bool, cond, ℤ, pos, neg_ℤ, ◌+ℤ◌, ◌-ℤ◌, get_or, set, replicate}
use Rattle.answers.specs.Checks.{every}
use Rattle.constraints.specs.Layout.{Constraint, Line, used_in, listed_in, literal_at}
use Rattle.constraints.specs.Linear.{Form, variable, same_z}
use Rattle.literals.specs.Literals.{atom_of, is_negated, is_constraint, constraint_number}
use Rattle.rules.specs.Arithmetic.{sum_of}
use Rattle.rules.specs.Cuts.{is_cut, as_arithmetic}

-- a number added at a variable
abbrev pub add_at : List ℤ → (x : ℕ) → ℤ → List ℤ
add_at sums x z = set sums x (get_or sums x (pos 0) +ℤ z)

-- a form's monomials added, the last first
unfoldable pub add_form : List ℤ → Form → List ℤ
add_form sums [] = sums
add_form sums (m ∷ ms) = add_at (add_form sums ms) m.of m.times

-- the coefficients of the first n literals' sum
abbrev pub sums_of : (ℕ → Constraint) → Line → (n : ℕ) → List ℤ
sums_of constraints line n = add_form (replicate 576 (pos 0)) (sum_of constraints line n).form

-- what the sums hold after a line, lent at zero: its sum where each of its literals is on a constraint, else they stay at zero
unfoldable pub sums_after : (ℕ → Constraint) → Line → List ℤ
sums_after constraints line =
    cond (every (λ j. is_constraint (atom_of (line.literal j))) (listed_in line))
    (sums_of constraints line (listed_in line))
    (replicate 576 (pos 0))

-- .. and after a cut: its sum, less r times the last literal's constraint, where its literals and multipliers are a cut's
unfoldable pub sums_after_cut : (ℕ → Constraint) → Line → List ℤ
sums_after_cut constraints line =
    cond (is_cut line) (sums_of constraints (as_arithmetic line) (listed_in line)) (replicate 576 (pos 0))

-- where the constraint stands that literal j of the line at `at` is on
abbrev pub place_of : List ℕ → (start at j : ℕ) → ℕ
place_of s start at j = start + 80 * constraint_number (atom_of (literal_at s at j))

-- what the constraint's own coefficients are multiplied by: the multiplier, negated where the opposite is the negation
unfoldable pub factor_of : (literal multiplier : ℕ) → ℤ
factor_of l m = cond (is_negated l) (pos m) (neg_ℤ (pos m))

-- the bound of the opposite of a literal on a constraint of a bound
unfoldable pub opposite_bound : (literal : ℕ) → ℤ → ℤ
opposite_bound l bound = cond (is_negated l) bound (neg_ℤ bound -ℤ pos 1)

-- the sum at the variable of term j of a constraint is 0
abbrev pub zero_at : List ℤ → Constraint → (j : ℕ) → Bool
zero_at sums c j = same_z (get_or sums (variable (c.term j).offset (c.term j).stream) (pos 0)) (pos 0)

-- the sum at each variable of a constraint is 0
abbrev pub terms_zero : List ℤ → Constraint → Bool
terms_zero sums c = every (zero_at sums c) (used_in c)
