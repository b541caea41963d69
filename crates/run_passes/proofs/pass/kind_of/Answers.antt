-- `run_passes::pass::kind_of` meets its contract: which event it is goes by its number.
use mathlib.Core.Path.{sym, ◌∙◌}
use borrow.Author.Rules.{rules}
use Rattle.run_passes.proofs.PassEvents.{is_short, is_kind, is_other}
use Rattle.run_passes.proofs.pass.kind_of.Goals as goal

pub returns-then-event-lt6-clause-event : goal.returns-then-event-lt6-clause-event
returns-then-event-lt6-clause-event c = is_short _ c.if-event-lt6.true

pub returns-in-1-clause-event : goal.returns-in-1-clause-event
returns-in-1-clause-event c = is_kind _ c.if-event-lt6.false (sym c.in-1.is ∙ c.read_at.ensures)

pub returns-in-2-clause-event : goal.returns-in-2-clause-event
returns-in-2-clause-event c = is_kind _ c.if-event-lt6.false (sym c.in-2.is ∙ c.read_at.ensures)

pub returns-in-3-clause-event : goal.returns-in-3-clause-event
returns-in-3-clause-event c = is_kind _ c.if-event-lt6.false (sym c.in-3.is ∙ c.read_at.ensures)

pub returns-in_default-clause-event : goal.returns-in_default-clause-event
returns-in_default-clause-event c = is_other _ c.if-event-lt6.false c.read_at.ensures (search rules) (search rules) (search rules)
