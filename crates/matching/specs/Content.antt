-- Coefficients summed one monomial at a time, and the constraints of a file as they are compared.
use Rattle.std.specs.Prelude.{ℕ, ◌+◌, ◌*◌, ◌≤◌, ◌<◌, Bool, cond, List, eqb, ℤ, pos, nat_abs, length}
use Rattle.constraints.specs.Layout.{constraint_at}
use Rattle.constraints.specs.Linear.{Monomial, Form, coefficient, same_z}
use Rattle.rules.specs.declared.pattern.Linear.{Linear}
use Rattle.rules.specs.Limited.{Limited}

-- what a monomial adds to the coefficient at x
abbrev pub share : Monomial → ℕ → ℤ
share m x = cond (eqb m.of x) m.times (pos 0)

-- two forms have the same coefficient at x
abbrev pub agree : Form → Form → ℕ → Bool
agree f g x = same_z (coefficient f x) (coefficient g x)

-- a constraint whose coefficients' sums fit a machine's word
pub record Summable (d : Linear) : Type 0 where
  pub a : nat_abs d.a ≤ 100000000000
  pub b : nat_abs d.b ≤ 8000000000000000000
  pub c : nat_abs d.c ≤ 100000000000

-- m constraints stand in the file from an offset on, each within its limits
pub record Readable (file : List ℕ) (start m : ℕ) : Type 0 where
  pub room : start + 80 * m ≤ length file
  pub constraints : (i : ℕ) → i < m → Limited (constraint_at file (start + 80 * i))
