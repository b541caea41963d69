-- What rules 11 to 16 leave for a line of kind 4 or 5: its sums are read within the file, and fit a machine's word.
use Rattle.std.specs.Prelude.{ℕ, ◌+◌, ◌≤◌, ◌<◌, ◌≡◌, List, true, length}
use Rattle.constraints.specs.Layout.{constraint_at, line_head_at, line_at, literal_at, multiplier_at}
use Rattle.literals.specs.Literals.{atom_of, is_constraint}
use Rattle.rules.specs.Cuts.{others, is_cut}
use Rattle.rules.specs.Limited.{Limited}
use Rattle.arithmetic.specs.Sums.{place_of}

-- the constraint at an offset stands within the file, and is within its limits
pub record Summable (s : List ℕ) (at : ℕ) : Type 0 where
  pub room : at + 80 ≤ length s
  pub limited : Limited (constraint_at s at)

-- literal j of the line at `at` is on such a constraint, and has a multiplier within its limit
pub record Usable (s : List ℕ) (start at j : ℕ) : Type 0 where
  pub room : at + 80 ≤ length s
  pub listed : j < 12
  pub multiplier : multiplier_at s at j ≤ 1000000
  pub constraint : is_constraint (atom_of (literal_at s at j)) ≡ true
  pub summable : Summable s (place_of s start at j)

-- the line at `at`: each of its literals on a constraint is usable where its multiplier is within the limit
pub record Checkable (s : List ℕ) (start at : ℕ) : Type 0 where
  pub room : at + 80 ≤ length s
  pub few : (line_head_at s at).count ≤ 12
  pub constraints :
      (j : ℕ) → j < (line_head_at s at).count → is_constraint (atom_of (literal_at s at j)) ≡ true
      → Summable s (place_of s start at j)

-- it is a cut in its literals, multipliers and r, and its last literal and r are at hand
pub record Cutting (s : List ℕ) (start at last r : ℕ) : Type 0 where
  pub checkable : Checkable s start at
  pub cut : is_cut (line_at s at) ≡ true
  pub last_is : last ≡ others (line_at s at)
  pub r_is : r ≡ (line_head_at s at).r
