-- `lines::equation_passes` meets its contract: line i stands in the base or in the step.
use native.Mathlib.Omega.{arith}
use borrow.Author.Tests.{lt-ltb, le-ltb}
use Rattle.lines.proofs.LineFacts.{readable, node_read}
use Rattle.lines.proofs.faults.equation_passes.Goals as goal

pub equation_ok-requires : goal.equation_ok-requires
equation_ok-requires c = record { readable = (readable _ _ _ c.requires.0, c.requires.1); constants_limited = node_read _ _ _ c.requires.0 _ (omega arith) }

pub equation_ok-requires-else-i-f : goal.equation_ok-requires-else-i-f
equation_ok-requires-else-i-f c = record { readable = (readable _ _ _ c.requires.0, c.requires.1); constants_limited = node_read _ _ _ c.requires.0 _ (omega arith) }

pub returns-then-i-f : goal.returns-then-i-f
returns-then-i-f c = rw (lt-ltb _ _ c.if-i-f.true) c.equation_ok.ensures

pub returns-else-i-f : goal.returns-else-i-f
returns-else-i-f c = rw (le-ltb _ _ c.if-i-f.false) c.equation_ok-else-i-f.ensures
