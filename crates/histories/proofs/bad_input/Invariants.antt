-- `histories::bad_input` meets its contract: instant by instant, up to the first with a bad input.
use mathlib.Core.Path.{◌≡◌}
use Rattle.histories.specs.History.{bad_input}
use Rattle.histories.proofs.bad_input.Given as goal
use Rattle.std.specs.Prelude.{None}

abbrev pub invariant-loop-t : goal.invariant-loop-t
invariant-loop-t l = bad_input l.file l.inputs l.t ≡ None
