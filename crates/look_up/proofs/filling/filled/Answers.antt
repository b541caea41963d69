-- `look_up::filled` meets its contract: stream after stream.
use mathlib.Core.Path.{refl}
use native.Mathlib.Numerals.{add-one}
use Rattle.node.specs.Inputs.{inputs_below}
use Rattle.look_up.proofs.filling.filled.Goals as goal

pub loop-s-init : goal.loop-s-init
unfolding inputs_below
loop-s-init c = (refl, c.requires.1)

pub add_stream-j-requires : goal.add_stream-j-requires
add_stream-j-requires c = (c.requires.0, c.loop-s-test.true, c.loop-s.invariant.0, c.loop-s.invariant.1)

pub loop-s-preserved : goal.loop-s-preserved
loop-s-preserved c = rw add-one c.add_stream-j.ensures
