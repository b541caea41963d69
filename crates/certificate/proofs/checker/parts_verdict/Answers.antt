-- `certificate::parts_verdict` meets its contract: each way out in the paper's order.
use mathlib.Core.Path.{◌∙◌, ap}
use Rattle.answers.proofs.Checks.{handed_on, check_stopped, check_passed}
use Rattle.answers.specs.Answer.{accepted}
use Rattle.rules.specs.Verdict.{parts_verdict}
use Rattle.lines.specs.declared.frame.Frame.{Frame}
use Rattle.certificate.proofs.PartFacts.{empty_base, empty_step}
use Rattle.certificate.proofs.checker.parts_verdict.Goals as goal

pub returns-in_err-check : goal.returns-in_err-check
unfolding parts_verdict
returns-in_err-check c node =
    handed_on _ c.from_residual.ensures
    ∙ check_stopped _ _ _ _ _ (c.has_empty.ensures ∙ empty_base c.args.cert.now _ c.requires.f_value node) c.check.ensures c.in_err-check.was

pub returns-in_err-check-2 : goal.returns-in_err-check-2
unfolding parts_verdict
returns-in_err-check-2 c node =
    rw (check_passed _ _ _ _ (c.has_empty.ensures ∙ empty_base c.args.cert.now _ c.requires.f_value node) c.check.ensures c.in_ok-check.was)
    (handed_on _ c.from_residual-in_err-check-2.ensures
    ∙ check_stopped _ _ _ _ _ (c.has_empty-2.ensures ∙ empty_step c.args.cert.now _ c.requires.f_value node) c.check-2.ensures c.in_err-check-2.was)

pub returns : goal.returns
unfolding parts_verdict
returns c node =
    rw (
      check_passed _ _ _ _ (c.has_empty.ensures ∙ empty_base c.args.cert.now _ c.requires.f_value node) c.check.ensures c.in_ok-check.was,
      check_passed _ _ _ _ (c.has_empty-2.ensures ∙ empty_step c.args.cert.now _ c.requires.f_value node) c.check-2.ensures c.in_ok-check-2.was,
    )
    (ap (λ (f : Frame). accepted (record { depth = f.depth; base = f.base; step = f.step })) c.requires.f_value)
