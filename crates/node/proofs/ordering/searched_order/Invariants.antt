-- `node::searched_order` meets its contract. The loop's invariant: the arrays hold the order after k turns, and no record below the
-- search's start is ready.
use Rattle.node.specs.Ordering.{NoneReady}
use Rattle.node.proofs.Searching.{Searching}
use Rattle.node.proofs.ordering.searched_order.Given as goal

abbrev pub invariant-loop-k : goal.invariant-loop-k
invariant-loop-k l = Searching l.file l.n l.streams l.placed l.k × NoneReady l.placed l.needs l.start
