-- `run_passes::pass::count_at` meets its contract.
use mathlib.Core.Path.{◌∙◌}
use Rattle.run_passes.proofs.PassEvents.{count_none, count_some}
use Rattle.run_passes.proofs.pass.count_at.Goals as goal

pub returns-then-event-lt6 : goal.returns-then-event-lt6
returns-then-event-lt6 c = count_none _ _ c.if-event-lt6.true

pub returns : goal.returns
returns c = rw c.read_at.ensures at c.min.ensures ∙ count_some _ _ c.if-event-lt6.false
