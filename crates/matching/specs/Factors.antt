-- A clause's constraint times a whole number, as a machine holds it.
use Rattle.std.specs.Prelude.{◌≤◌, ℤ, nat_abs, ◌*ℤ◌}
use Rattle.rules.specs.declared.pattern.Linear.{Linear}
use Rattle.rules.specs.Clauses.{linear}
use Rattle.matching.specs.Content.{Summable}

abbrev pub multiplied_by : (factor : ℤ) → Linear → Linear
multiplied_by f d = linear d.x (f *ℤ d.a) d.y (f *ℤ d.b) d.z (f *ℤ d.c) (f *ℤ d.bound)

-- whose numbers fit
pub record Fitting (factor : ℤ) (d : Linear) : Type 0 where
  pub sums : Summable (multiplied_by factor d)
  pub bound : nat_abs (factor *ℤ d.bound) ≤ 8000000000000000000
