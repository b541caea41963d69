-- `histories::inputs_at` meets its contract.
use Rattle.histories.proofs.Parts.{part_is}
use Rattle.histories.proofs.inputs_at.Goals as goal

-- src/lib.rt:28:1
pub returns : goal.returns
returns c = part_is _ _ _
