-- `run_passes::pass::numbers` meets its contract: what stands after the two counts, where they are there.
use mathlib.Core.Path.{sym}
use Rattle.run_passes.proofs.PassEvents.{no_inputs}
use Rattle.run_passes.proofs.pass.numbers.Goals as goal

pub returns-else-event-ge6 : goal.returns-else-event-ge6
returns-else-event-ge6 c = sym (no_inputs c.args.event.now c.if-event-ge6.false)
