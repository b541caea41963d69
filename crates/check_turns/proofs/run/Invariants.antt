-- The loop's invariant: the turns that are left take the record where all take the first.
use mathlib.Core.Path.{◌≡◌}
use Prim.Native.Nat.{◌/◌}
use lib.ListN.{length}
use Rattle.check_turns.proofs.Turning.{after}
use Rattle.check_turns.proofs.run.Given as goal

abbrev pub invariant-loop-i : goal.invariant-loop-i
invariant-loop-i g l = after l.node l.cert l.turns l.progress.line l.i (length l.turns / 8) ≡ after l.node l.cert l.turns l.line 1 (length l.turns / 8)
