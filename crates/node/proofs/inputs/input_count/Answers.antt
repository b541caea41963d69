-- `node::input_count` meets its contract. The loop's invariant: the inputs among the records passed are counted.
use mathlib.Core.Path.{refl, ◌∙◌}
use Rattle.node.specs.Inputs.{inputs_below}
use Rattle.node.proofs.InputCounts.{inputs_few, inputs_more}
use Rattle.node.proofs.inputs.input_count.Goals as goal

pub loop-i-init : goal.loop-i-init
unfolding inputs_below
loop-i-init c = refl

pub loop-i-preserved : goal.loop-i-preserved
loop-i-preserved c =
    let few = inputs_few _ _ _ _ c.records_of-n.ensures c.loop-i-test.true c.loop-i.invariant c.well_formed.0.0 in
    c.with_record-inputs.ensures ∙ inputs_more _ _ _ _ c.records_of-n.ensures few c.loop-i.invariant
