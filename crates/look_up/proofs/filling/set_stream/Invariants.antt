-- `look_up::set_stream` meets its contract: instant after instant.
use Rattle.look_up.specs.Looking.{StreamSet}
use Rattle.look_up.proofs.filling.set_stream.Given as goal

abbrev pub invariant-loop-t : goal.invariant-loop-t
invariant-loop-t l = StreamSet l.history.inputs.now l.history.m l.j l.s l.t l.initial.table l.table
