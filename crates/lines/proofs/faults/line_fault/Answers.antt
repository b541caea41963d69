-- `lines::line_fault` meets its contract: rule 16 fails, or the rule of the line's kind decides.
use mathlib.Core.Path.{◌≡◌, sym, ◌∙◌, ap}
use Rattle.answers.proofs.Checks.{handed_on, check_stopped, check_passed}
use Rattle.rules.specs.Verdict.{shape_passes, own_fault, line_fault}
use Rattle.rules.specs.Versions.{version2}
use Rattle.lines.specs.Faults.{fault_at}
use Rattle.lines.proofs.FaultAnswers.{shape_first}
use Rattle.lines.proofs.LineFacts.{shape_is}
use Rattle.lines.proofs.faults.line_fault.Goals as goal

pub returns-in_err-check-clause-answer : goal.returns-in_err-check-clause-answer
returns-in_err-check-clause-answer c =
    let shape = c.shape_ok.ensures ∙ shape_is _ _ _ c.requires.checking.0 _ _ c.block_at-at.ensures _ c.line_head-h.ensures c.args.types.now c.requires.checking.1 in
    handed_on _ c.from_residual.ensures
    ∙ check_stopped _ _ _ _ _ shape c.check.ensures c.in_err-check.was
    ∙ shape_first c.args.node.now c.args.cert.now c.args.i

pub own_fault-requires : goal.own_fault-requires
own_fault-requires c =
    let shape = c.shape_ok.ensures ∙ shape_is _ _ _ c.requires.checking.0 _ _ c.block_at-at.ensures _ c.line_head-h.ensures c.args.types.now c.requires.checking.1 in
    record {
      checking = (c.requires.checking.0, c.block_at-at.ensures, c.line_head-h.ensures);
      i_value = (check_passed _ _ _ _ shape c.check.ensures c.in_ok-check.was, c.requires.i_bound);
      sums_value = c.requires.sums_value;
    }

pub returns-clause-answer : goal.returns-clause-answer
unfolding line_fault
returns-clause-answer c =
    let shape = c.shape_ok.ensures ∙ shape_is _ _ _ c.requires.checking.0 _ _ c.block_at-at.ensures _ c.line_head-h.ensures c.args.types.now c.requires.checking.1 in
    rw (check_passed _ _ _ _ shape c.check.ensures c.in_ok-check.was) c.own_fault.ensures.answer
