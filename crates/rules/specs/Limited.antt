-- What rule 15 leaves of a constraint.
use Rattle.std.specs.Prelude.{ℕ, ◌≤◌, ◌<◌, nat_abs}
use Rattle.constraints.specs.Layout.{Constraint, used_in}
use Rattle.constraints.specs.Linear.{variable}

-- the first n terms name variables below 576: 64 streams at nine offsets
abbrev pub Named : Constraint → (n : ℕ) → Type 0
Named c n = (j : ℕ) → j < n → variable (c.term j).offset (c.term j).stream < 576

-- a constraint within its limits
pub record Limited (c : Constraint) : Type 0 where
  pub few : c.head.count ≤ 8
  pub bound : nat_abs c.head.bound ≤ 100000000000
  pub variables : Named c (used_in c)
  pub coefficients : (j : ℕ) → j < used_in c → nat_abs (c.term j).coefficient ≤ 1000000000
