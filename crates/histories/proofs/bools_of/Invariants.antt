-- `histories::bools_of` meets its contract: record after record.
use mathlib.Core.Path.{◌≡◌}
use lib.ListN.{length}
use Rattle.node.specs.Inputs.{inputs_below}
use Rattle.histories.specs.Marks.{MarksBools}
use Rattle.histories.proofs.bools_of.Given as goal

abbrev pub invariant-loop-i : goal.invariant-loop-i
invariant-loop-i l = (l.j ≡ inputs_below l.file l.i) × (length l.bools ≡ 64) × MarksBools l.file l.i l.bools
