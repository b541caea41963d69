-- `report::put` meets its contract.
use mathlib.Core.Path.{refl}
use Rattle.report.proofs.Texts.{put_is_sets}
use Rattle.report.proofs.text.put.Goals as goal

pub returns : goal.returns
returns c = record { past = refl; bytes = put_is_sets c.args.out.now c.args.at _ c.requires c.copy_from_slice.ensures.after }
