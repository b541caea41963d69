-- `node::records_read` meets its contract: a rule's search found nothing where the next begins, and at each way out the first failing
-- rule is the one that is given.
use mathlib.Core.Path.{◌≡◌, sym, ◌∙◌, ap}
use Prim.Native.Nat.{ℕ, ◌<◌}
use lib.ListN.{get_or}
use borrow.Author.Rules.{rules}
use Rattle.answers.proofs.Checks.{all_stopped, all_passed}
use Rattle.answers.proofs.Every.{every_of}
use Rattle.answers.proofs.Lowest.{all}
use Rattle.answers.specs.Answer.{answer_map}
use Rattle.node.specs.declared.reading.ReadNode.{ReadNode}
use Rattle.node.specs.Verdict.{records_verdict}
use Rattle.node.proofs.LowerOperands.{operands_pass, all_placed, record_order_taken}
use Rattle.node.proofs.NodeRefusals.{refusal_read, typed_read}
use Rattle.node.proofs.reading.records_read.Goals as goal

pub returns-in_err-check_records-clause-verdict_value : goal.returns-in_err-check_records-clause-verdict_value
unfolding records_verdict
returns-in_err-check_records-clause-verdict_value c =
    refusal_read _ c.from_residual.ensures
    ∙ all_stopped _ _ _ _ _ c.first_bad.ensures c.check_records.ensures c.in_err-check_records.was

pub returns-then-in_record_order : goal.returns-then-in_record_order
returns-then-in_record_order c =
    let own : (k : ℕ) → k < 64 → get_or c.from_fn.result k 0 ≡ k = λ k l. let a = c.from_fn.ensures.items.at k 0 l in search rules in
    let shapes = all_passed _ _ _ _ c.first_bad.ensures c.check_records.ensures c.in_ok-check_records.was in
    let lower = sym c.in_record_order.ensures ∙ c.if-in_record_order.true in
    let types = c.types_read.ensures in
    let r = typed_read c.args.file.now c.args.n c.args.property _ shapes (operands_pass _ _ shapes lower) (all_placed _ _ shapes lower) (record_order_taken _ _ shapes lower c.from_fn.result c.from_fn.ensures.items.long own c.requires.1) _ (types.verdict_value, types.order_value) in
    record { verdict_value = r.0; order_value = r.1 }

pub returns-in_err-check_records-2-clause-verdict_value : goal.returns-in_err-check_records-2-clause-verdict_value
unfolding records_verdict
returns-in_err-check_records-2-clause-verdict_value c =
    rw (all_passed _ _ _ _ c.first_bad.ensures c.check_records.ensures c.in_ok-check_records.was)
    (refusal_read _ c.from_residual-in_err-check_records-2.ensures ∙ all_stopped _ _ _ _ _ c.first_bad-2.ensures c.check_records-2.ensures c.in_err-check_records-2.was)

pub searched_order-requires : goal.searched_order-requires
searched_order-requires c = (
  c.requires.0,
  c.requires.1,
  every_of _ _ (all _ _ (all_passed _ _ _ _ c.first_bad.ensures c.check_records.ensures c.in_ok-check_records.was)),
  every_of _ _ (all _ _ (all_passed _ _ _ _ c.first_bad-2.ensures c.check_records-2.ensures c.in_ok-check_records-2.was)),
)

pub returns-in-Ok : goal.returns-in-Ok
returns-in-Ok c =
    let types = c.types_read-in-Ok.ensures in
    let r = typed_read c.args.file.now c.args.n c.args.property _
    (all_passed _ _ _ _ c.first_bad.ensures c.check_records.ensures c.in_ok-check_records.was)
    (all_passed _ _ _ _ c.first_bad-2.ensures c.check_records-2.ensures c.in_ok-check_records-2.was)
    (sym c.in-Ok.ensures.unplaced_value)
    c.in-Ok.ensures.streams_value
    _
    (types.verdict_value, types.order_value) in
    record { verdict_value = r.0; order_value = r.1 }

pub returns-in-Err-clause-verdict_value : goal.returns-in-Err-clause-verdict_value
unfolding records_verdict
returns-in-Err-clause-verdict_value c =
    rw (
      all_passed _ _ _ _ c.first_bad.ensures c.check_records.ensures c.in_ok-check_records.was,
      all_passed _ _ _ _ c.first_bad-2.ensures c.check_records-2.ensures c.in_ok-check_records-2.was,
      sym c.in-Err.ensures.unplaced_value,
    )
    (ap (answer_map (λ (node : ReadNode). node.values)) c.refused.ensures)
