-- `node::read` meets its contract: each way out is the first failing rule of the file, or the verdict on its records.
use mathlib.Core.Path.{sym, ◌∙◌, ap}
use Rattle.answers.proofs.Checks.{check_stopped, check_passed}
use Rattle.node.specs.declared.layout.Trailer.{Trailer}
use Rattle.node.specs.Verdict.{verdict_of}
use Rattle.node.proofs.FileRules.{long_enough, sizes}
use Rattle.node.proofs.NodeRefusals.{refusal_read, verdict_by, file_rules, records_decide}
use Rattle.node.proofs.reading.read.Goals as goal

pub returns-in_err-check-clause-verdict_value : goal.returns-in_err-check-clause-verdict_value
unfolding verdict_of
returns-in_err-check-clause-verdict_value c =
    refusal_read _ c.from_residual.ensures ∙ check_stopped _ _ _ _ _ c.length_ok.ensures c.check.ensures c.in_err-check.was

pub trailer_of-trailer-requires : goal.trailer_of-trailer-requires
trailer_of-trailer-requires c = long_enough _ (check_passed _ _ _ _ c.length_ok.ensures c.check.ensures c.in_ok-check.was)

pub returns-in_err-check-2-clause-verdict_value : goal.returns-in_err-check-2-clause-verdict_value
returns-in_err-check-2-clause-verdict_value c =
    rw (
      verdict_by _ _ c.trailer_of-trailer.ensures,
      check_passed _ _ _ _ c.length_ok.ensures c.check.ensures c.in_ok-check.was,
    )
    (refusal_read _ c.from_residual-in_err-check-2.ensures ∙ check_stopped _ _ _ _ _ c.fixed_ok.ensures c.check-2.ensures c.in_err-check-2.was)

pub returns-in_err-check-3-clause-verdict_value : goal.returns-in_err-check-3-clause-verdict_value
returns-in_err-check-3-clause-verdict_value c =
    rw (
      verdict_by _ _ c.trailer_of-trailer.ensures,
      check_passed _ _ _ _ c.length_ok.ensures c.check.ensures c.in_ok-check.was,
      check_passed _ _ _ _ c.fixed_ok.ensures c.check-2.ensures c.in_ok-check-2.was,
    )
    (refusal_read _ c.from_residual-in_err-check-3.ensures ∙ check_stopped _ _ _ _ _ c.counts_ok.ensures c.check-3.ensures c.in_err-check-3.was)

pub returns-in_err-check-4-clause-verdict_value : goal.returns-in_err-check-4-clause-verdict_value
returns-in_err-check-4-clause-verdict_value c =
    rw (
      verdict_by _ _ c.trailer_of-trailer.ensures,
      check_passed _ _ _ _ c.length_ok.ensures c.check.ensures c.in_ok-check.was,
      check_passed _ _ _ _ c.fixed_ok.ensures c.check-2.ensures c.in_ok-check-2.was,
      check_passed _ _ _ _ c.counts_ok.ensures c.check-3.ensures c.in_ok-check-3.was,
    )
    (refusal_read _ c.from_residual-in_err-check-4.ensures ∙ check_stopped _ _ _ _ _ c.distance_ok.ensures c.check-4.ensures c.in_err-check-4.was)

pub records_read-requires : goal.records_read-requires
records_read-requires c =
    let rules = file_rules _ _ c.trailer_of-trailer.ensures
    (check_passed _ _ _ _ c.length_ok.ensures c.check.ensures c.in_ok-check.was)
    (check_passed _ _ _ _ c.fixed_ok.ensures c.check-2.ensures c.in_ok-check-2.was)
    (check_passed _ _ _ _ c.counts_ok.ensures c.check-3.ensures c.in_ok-check-3.was)
    (check_passed _ _ _ _ c.distance_ok.ensures c.check-4.ensures c.in_ok-check-4.was) in
    let size = sizes _ rules in
    let n_is = ap (λ (t : Trailer). t.streams) c.trailer_of-trailer.ensures in
    (n_is ∙ sym size.records, rw n_is size.few)

pub returns : goal.returns
returns c =
    let rules = file_rules _ _ c.trailer_of-trailer.ensures
    (check_passed _ _ _ _ c.length_ok.ensures c.check.ensures c.in_ok-check.was)
    (check_passed _ _ _ _ c.fixed_ok.ensures c.check-2.ensures c.in_ok-check-2.was)
    (check_passed _ _ _ _ c.counts_ok.ensures c.check-3.ensures c.in_ok-check-3.was)
    (check_passed _ _ _ _ c.distance_ok.ensures c.check-4.ensures c.in_ok-check-4.was) in
    let records = c.records_read.ensures in
    let r = records_decide _ _ c.trailer_of-trailer.ensures rules _ (records.verdict_value, records.order_value) in
    record { verdict_value = r.0; order_value = r.1 }
