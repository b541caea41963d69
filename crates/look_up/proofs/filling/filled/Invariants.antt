-- `look_up::filled` meets its contract: stream after stream.
use mathlib.Core.Path.{◌≡◌}
use Rattle.node.specs.Inputs.{inputs_below}
use Rattle.look_up.specs.Looking.{HoldsHistory}
use Rattle.look_up.proofs.filling.filled.Given as goal

abbrev pub invariant-loop-s : goal.invariant-loop-s
invariant-loop-s l = (l.j ≡ inputs_below l.history.file.now l.s) × HoldsHistory l.history.file.now l.history.count l.history.inputs.now l.s l.table
