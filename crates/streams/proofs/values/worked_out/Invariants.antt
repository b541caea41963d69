-- `streams::worked_out` meets its contract. The loop's invariant: 64 signed bits hold the values of the streams passed, and the array
-- holds them.
use mathlib.Core.Path.{◌≡◌}
use lib.ListN.{length}
use Rattle.streams.proofs.WorkingOut.{WorkedTo}
use Rattle.streams.proofs.values.worked_out.Given as goal

abbrev pub invariant-loop-i : goal.invariant-loop-i
invariant-loop-i l = (length l.values ≡ 64) × WorkedTo l.file l.inputs l.first l.past l.values l.i-index
