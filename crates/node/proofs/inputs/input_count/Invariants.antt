-- `node::input_count` meets its contract. The loop's invariant: the inputs among the records passed are counted.
use mathlib.Core.Path.{◌≡◌}
use Rattle.node.specs.Inputs.{inputs_below}
use Rattle.node.proofs.inputs.input_count.Given as goal

abbrev pub invariant-loop-i : goal.invariant-loop-i
invariant-loop-i l = l.inputs ≡ inputs_below l.file l.i
