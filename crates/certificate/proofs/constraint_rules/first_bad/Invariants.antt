-- `certificate::first_bad` meets its contract. The loop's invariant: each constraint passed keeps its rules.
use mathlib.Core.Path.{◌≡◌}
use mathlib.Core.Bool.{true}
use Prim.Native.Nat.{ℕ, ◌-◌, ◌<◌, ◌≤◌}
use Rattle.constraints.specs.Rules.{types_of, constraint_passes}
use Rattle.certificate.proofs.constraint_rules.first_bad.Given as goal

abbrev pub invariant-loop-i : goal.invariant-loop-i
invariant-loop-i l = (l.i ≤ l.m) × ((j : ℕ) → j < l.i → constraint_passes (types_of l.types) l.k l.file l.start j ≡ true)
