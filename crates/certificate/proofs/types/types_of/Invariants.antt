-- `certificate::types_of` meets its contract. The loop's invariant: the streams passed are in the list, the others are 2.
use mathlib.Core.Path.{◌≡◌}
use Prim.Native.Nat.{ℕ, ◌-◌, ◌≤◌}
use lib.ListN.{length, get_or}
use Rattle.rules.specs.Types.{types_below}
use Rattle.certificate.proofs.types.types_of.Given as goal

abbrev pub invariant-loop-i : goal.invariant-loop-i
invariant-loop-i l = (l.i ≤ l.n) × (length l.types ≡ 64) × ((x : ℕ) → get_or l.types x 2 ≡ types_below l.file l.i x)
