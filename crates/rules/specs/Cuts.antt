-- Line kind 5, a cut: "Its last literal is an unnegated constraint with multiplier 0. The other literals are constraints too, with
-- kind 4's multipliers, and their opposites, times multipliers, sum to coefficients A, one for every variable (0 where none has it),
-- and bound B. With r from 1 to 65,535, each A is r times that constraint's coefficient, and its bound is B divided by r, rounded
-- toward minus infinity."
use Rattle.std.specs.Prelude.{ℕ, suc, ◌-◌, ◌/◌, Bool, cond, not, ◌&&◌, leb, eqb, ℤ, pos, negsuc, ◌*ℤ◌}
use Rattle.answers.specs.Checks.{every}
use Rattle.constraints.specs.Layout.{Constraint, Line, listed_in}
use Rattle.constraints.specs.Linear.{Bounded, coefficient, bounded_of, same_z}
use Rattle.literals.specs.Literals.{atom_of, is_negated, is_constraint, constraint_number}
use Rattle.rules.specs.Arithmetic.{is_multiplier, sum_of}

-- how many literals stand before the last
abbrev pub others : Line → ℕ
others line = listed_in line - 1

-- "an unnegated constraint with multiplier 0"
abbrev pub last_ok : (literal multiplier : ℕ) → Bool
last_ok l m = is_constraint (atom_of l) && not (is_negated l) && eqb m 0

-- "constraints too, with kind 4's multipliers"
abbrev pub other_ok : (literal multiplier : ℕ) → Bool
other_ok l m = is_constraint (atom_of l) && is_multiplier m

-- what a line says of a cut without a look at its constraints
unfoldable pub is_cut : Line → Bool
is_cut line =
    leb 1 (listed_in line)
    && last_ok (line.literal (others line)) (line.multiplier (others line))
    && every (λ j. other_ok (line.literal j) (line.multiplier j)) (others line)
    && leb 1 line.head.r
    && leb line.head.r 65535

-- "that constraint": the last literal's
abbrev pub cut_to : (ℕ → Constraint) → Line → Bounded
cut_to constraints line = bounded_of (constraints (constraint_number (atom_of (line.literal (others line)))))

-- "their opposites, times multipliers, sum to coefficients A, one for every variable (0 where none has it), and bound B"
abbrev pub others_sum : (ℕ → Constraint) → Line → Bounded
others_sum constraints line = sum_of constraints line (others line)

-- "each A is r times that constraint's coefficient". The variables of a certificate are below 576.
abbrev pub multiple_ok : (ℕ → Constraint) → Line → Bool
multiple_ok constraints line =
    every (λ x. same_z (coefficient (others_sum constraints line).form x) (pos line.head.r *ℤ coefficient (cut_to constraints line).form x)) 576

-- "B divided by r, rounded toward minus infinity": of −b − 1 it is −(b / r) − 1
abbrev pub floor_over : ℤ → (r : ℕ) → ℤ
floor_over (pos b) r = pos (b / r)
floor_over (negsuc b) r = negsuc (b / r)

-- "its bound is B divided by r, rounded toward minus infinity"
abbrev pub rounded_ok : (ℕ → Constraint) → Line → Bool
rounded_ok constraints line = same_z (cut_to constraints line).bound (floor_over (others_sum constraints line).bound line.head.r)

-- 22: "a kind 5 line not as described, multipliers included"
unfoldable pub cut_ok : (ℕ → Constraint) → Line → Bool
cut_ok constraints line = is_cut line && multiple_ok constraints line && rounded_ok constraints line

-- the cut as kind 4 takes it: its last literal has the multiplier r
abbrev pub as_arithmetic : Line → Line
as_arithmetic line =
    record {
      head = line.head;
      literal = line.literal;
      multiplier = λ j. cond (eqb (suc j) (listed_in line)) line.head.r (line.multiplier j);
    }
