-- `streams::spread` meets its contract. The loop's invariant: the streams passed have their inputs, and those among them are counted.
use mathlib.Core.Path.{◌≡◌}
use lib.ListN.{length}
use Rattle.node.specs.Inputs.{inputs_below}
use Rattle.streams.specs.Instant.{HoldInputs}
use Rattle.streams.proofs.values.spread.Given as goal

abbrev pub invariant-loop-i : goal.invariant-loop-i
invariant-loop-i l = (length l.given ≡ 64) × (l.j ≡ inputs_below l.file l.i) × HoldInputs l.file l.inputs l.i l.given
