-- `session::commit_answer` meets its contract: 30 and 35 in turn.
use mathlib.Core.Path.{refl, ◌∙◌}
use Rattle.answers.proofs.Checks.{handed_on, check_stopped, check_passed}
use Rattle.session.proofs.Answering.{found_holds, commit_by}
use Rattle.session.proofs.committing.commit_answer.Goals as goal

pub returns-in_err-check : goal.returns-in_err-check
returns-in_err-check c =
    handed_on _ c.from_residual.ensures
    ∙ check_stopped _ _ _ _ _ (c.is_some.ensures ∙ found_holds c.args.s.now _ c.node_held.ensures.node_value) c.check.ensures c.in_err-check.was
    ∙ commit_by c.args.s.now refl refl

pub returns : goal.returns
returns c =
    c.check-2.ensures
    ∙ commit_by c.args.s.now
    (check_passed _ _ _ _ (c.is_some.ensures ∙ found_holds c.args.s.now _ c.node_held.ensures.node_value) c.check.ensures c.in_ok-check.was)
    refl
