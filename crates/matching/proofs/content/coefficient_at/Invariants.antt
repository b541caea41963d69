-- `matching::coefficient_at` meets its contract. The loop's invariant: the sum is the coefficient of the terms passed, and at
-- most 2^31 for each.
use mathlib.Core.Path.{◌≡◌}
use Prim.Native.Nat.{◌*◌, ◌≤◌}
use lib.IntN.{nat_abs}
use Rattle.constraints.specs.Layout.{constraint_at}
use Rattle.constraints.specs.Linear.{coefficient, written}
use Rattle.matching.proofs.content.coefficient_at.Given as goal

abbrev pub invariant-loop-j : goal.invariant-loop-j
invariant-loop-j l = (l.sum ≡ coefficient (written (constraint_at l.file l.at) l.j) l.x) × (nat_abs l.sum ≤ l.j * 2147483648)
