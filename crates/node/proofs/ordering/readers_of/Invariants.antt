-- `node::readers_of` meets its contract. The loop's invariant: the readers from record i on are there.
use Rattle.node.specs.Ordering.{HoldReaders}
use Rattle.node.proofs.ordering.readers_of.Given as goal

abbrev pub invariant-loop-i : goal.invariant-loop-i
invariant-loop-i l = HoldReaders l.needs l.n l.i l.readers
