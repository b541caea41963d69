-- The loop's invariant: the events that are left take the session where all take the begun one.
use lib.ListN.{length}
use mathlib.Core.Path.{◌≡◌}
use Rattle.run_passes.specs.Pass.{events_of}
use Rattle.session.specs.Events.{after_events}
use Rattle.run_passes.proofs.run.Given as goal

abbrev pub invariant-loop-event : goal.invariant-loop-event
invariant-loop-event g l = after_events l.s (events_of l.left) ≡ after_events l.initial.s (events_of l.initial.left)

abbrev pub decreases-loop-event : goal.decreases-loop-event
decreases-loop-event g l = length l.left
