-- `node::needs_of_all` meets its contract. The loop's invariant: the needs of the records passed are there.
use mathlib.Core.Path.{◌≡◌}
use lib.ListN.{length}
use Rattle.node.specs.Ordering.{HoldNeeds}
use Rattle.node.proofs.ordering.needs_of_all.Given as goal

abbrev pub invariant-loop-i : goal.invariant-loop-i
invariant-loop-i l = (length l.needs ≡ 64) × HoldNeeds l.file l.i l.needs
