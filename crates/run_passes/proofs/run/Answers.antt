-- `run_passes::run` meets its contract. The loop's invariant: the events that are left take the session where all take the begun one.
use mathlib.Core.Path.{◌∙◌}
use Rattle.run_passes.proofs.PassEvents.{one_made, all_made}
use Rattle.run_passes.proofs.run.Goals as goal

pub loop-event-preserved : goal.loop-event-preserved
loop-event-preserved g c =
    let at = c.loop-event in
    one_made at.s at.left.now _ c.in-Some.ensures.0 c.in-Some.ensures.1 c.after_event-s.ensures ∙ at.invariant

pub returns : goal.returns
returns g c =
    let at = c.loop-event in
    all_made at.s at.left.now c.in_default.ensures ∙ at.invariant
