-- `session::node_held` meets its contract: the length, the verdict on a file that long, and where past instant 0 the last values fit,
-- and a held trial's.
use mathlib.Core.Path.{sym, ◌∙◌}
use native.Mathlib.Omega.{arith}
use Rattle.node.proofs.Notes.{accepted_count}
use Rattle.session.proofs.HeldNodes.{too_long, held_refused, both_typed, last_untyped, trial_untyped}
use Rattle.session.proofs.holding.node_held.Goals as goal
use Rattle.session.proofs.holding.node_held.Goals.{else-typed_unless-via-then-typed_unless+else-typed_unless-2, else-typed_unless-via-else-typed_unless}

pub returns-then-s-gt1040-clause-node_value : goal.returns-then-s-gt1040-clause-node_value
returns-then-s-gt1040-clause-node_value c = too_long c.args.s.now c.if-s-gt1040.true

pub returns-in_default-clause-node_value : goal.returns-in_default-clause-node_value
returns-in_default-clause-node_value c =
    held_refused c.args.s.now (omega (arith, c.if-s-gt1040.false)) (sym c.in_default.ensures.verdict_value)

pub typed_unless-requires : goal.typed_unless-requires
typed_unless-requires c = accepted_count _ (sym c.in-Ok.ensures.verdict_value)

pub typed_unless-requires-then-typed_unless : goal.typed_unless-requires-then-typed_unless
typed_unless-requires-then-typed_unless c = accepted_count _ (sym c.in-Ok.ensures.verdict_value)

pub returns-then-typed_unless-2-clause-node_value : goal.returns-then-typed_unless-2-clause-node_value
returns-then-typed_unless-2-clause-node_value c =
    both_typed c.args.s.now (omega (arith, c.if-s-gt1040.false)) (sym c.in-Ok.ensures.verdict_value)
    (sym c.typed_unless.ensures ∙ c.if-typed_unless.true)
    (sym c.typed_unless-then-typed_unless.ensures ∙ c.if-typed_unless-2.true)

pub returns-else-typed_unless-clause-node_value : goal.returns-else-typed_unless-clause-node_value
returns-else-typed_unless-clause-node_value c =
    elim c.else-typed_unless.branch [
      | else-typed_unless-via-then-typed_unless+else-typed_unless-2 w ↦
          trial_untyped c.args.s.now (omega (arith, c.if-s-gt1040.false)) (sym c.in-Ok.ensures.verdict_value)
          (sym c.typed_unless.ensures ∙ w.if-typed_unless.true)
          (sym w.typed_unless-then-typed_unless.ensures ∙ w.if-typed_unless-2.false)
      | else-typed_unless-via-else-typed_unless w ↦
          last_untyped c.args.s.now (omega (arith, c.if-s-gt1040.false)) (sym c.in-Ok.ensures.verdict_value)
          (sym c.typed_unless.ensures ∙ w.if-typed_unless.false)
    ]
