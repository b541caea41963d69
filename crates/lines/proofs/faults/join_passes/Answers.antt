-- `lines::join_passes` meets its contract: the part of line i begins at 0 or at the first line of the step.
use borrow.Author.Tests.{lt-ltb, le-ltb}
use Rattle.lines.proofs.faults.join_passes.Goals as goal

pub returns-then-i-f : goal.returns-then-i-f
returns-then-i-f c = rw (lt-ltb _ _ c.if-i-f.true) c.join_ok.ensures

pub returns-else-i-f : goal.returns-else-i-f
returns-else-i-f c = rw (le-ltb _ _ c.if-i-f.false) c.join_ok-else-i-f.ensures
