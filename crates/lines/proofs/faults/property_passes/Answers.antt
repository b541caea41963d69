-- `lines::property_passes` meets its contract: line i stands in the base or in the step.
use borrow.Author.Tests.{lt-ltb, le-ltb}
use Rattle.lines.proofs.faults.property_passes.Goals as goal

pub returns-then-i-f : goal.returns-then-i-f
returns-then-i-f c = rw (lt-ltb _ _ c.if-i-f.true) c.base_property_ok.ensures

pub returns-else-i-f : goal.returns-else-i-f
returns-else-i-f c = rw (le-ltb _ _ c.if-i-f.false) c.step_property_ok.ensures
