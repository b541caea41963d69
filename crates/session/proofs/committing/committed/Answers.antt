-- `session::committed` meets its contract: where it is answered, the record is moved on.
use mathlib.Core.Path.{sym, ◌∙◌}
use Rattle.session.proofs.Answering.{commit_moves, commit_keeps}
use Rattle.session.proofs.committing.committed.Goals as goal

pub returns-in-Ok : goal.returns-in-Ok
returns-in-Ok c =
    let is = c.commit_answer-answer.ensures in
    (is, c.moved_to-session.ensures ∙ commit_moves _ (sym is ∙ c.in-Ok.is))

pub returns-in-Err : goal.returns-in-Err
returns-in-Err c =
    let is = c.commit_answer-answer.ensures in
    (is, commit_keeps _ (sym is ∙ c.in-Err.is))
