-- `session::begun` meets its contract: the record is set where the file is accepted, and else kept.
use mathlib.Core.Path.{sym, ◌∙◌}
use Rattle.session.proofs.Beginnings.{begins, keeps}
use Rattle.session.proofs.beginning.begun.Goals as goal

pub session_on-session-requires : goal.session_on-session-requires
session_on-session-requires c = sym c.verdict-answer.ensures ∙ c.in-Ok.is

pub returns-in-Ok : goal.returns-in-Ok
returns-in-Ok c =
    let e = sym c.verdict-answer.ensures ∙ c.in-Ok.is in
    (sym e, c.session_on-session.ensures ∙ begins _ _ e)

pub returns-in-Err : goal.returns-in-Err
returns-in-Err c =
    let e = sym c.verdict-answer.ensures ∙ c.in-Err.is in
    (c.verdict-answer.ensures, keeps _ _ e)
