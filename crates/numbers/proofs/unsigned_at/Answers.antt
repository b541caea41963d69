-- `numbers::unsigned_at` meets its contract.
use borrow.Author.Tests.{lt-ltb, le-ltb}
use Rattle.numbers.specs.Numbers.{unsigned_at}
use Rattle.numbers.proofs.unsigned_at.Goals as goal

pub returns-then-i-bytes : goal.returns-then-i-bytes
unfolding unsigned_at
returns-then-i-bytes c = rw (lt-ltb _ _ c.if-i-bytes.true) c.read_at.ensures

pub returns-else-i-bytes : goal.returns-else-i-bytes
unfolding unsigned_at
returns-else-i-bytes c = rw (le-ltb _ _ c.if-i-bytes.false)
