-- `report::put_values` meets its contract. The loop's invariant: the text of the values passed is in the buffer.
use mathlib.Core.Path.{◌≡◌}
use Prim.Native.Nat.{◌+◌, ◌*◌, ◌≤◌}
use lib.ListN.{length, take}
use Rattle.report.specs.Written.{Written}
use Rattle.report.specs.Call.{values_text}
use Rattle.report.proofs.calls.put_values.Given as goal

abbrev pub invariant-loop-x : goal.invariant-loop-x
invariant-loop-x l = (l.past ≤ l.at + 22 * l.x-index) × (length l.out ≡ length l.initial.out) × Written l.initial.out l.at (values_text (take l.x-index l.values)) l.out l.past
