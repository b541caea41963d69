-- The loop's invariant: the values so far and those of the questions that are left are all.
use Rattle.look_ups.proofs.Counting.{Counted}
use Rattle.look_ups.proofs.ask_all.Given as goal

abbrev pub invariant-loop-i : goal.invariant-loop-i
invariant-loop-i g l = Counted l.node l.history l.questions l.i-end l.values l.i
