-- `node::types_read` meets its contract: 7, then 8, then the file is accepted with the order that was given.
use mathlib.Core.Path.{◌≡◌, ◌∙◌, ap}
use mathlib.Core.Bool.{Bool}
use mathlib.Core.List.{List}
use Prim.Native.Nat.{ℕ}
use Rattle.answers.proofs.Checks.{check_stopped, check_passed, all_stopped, all_passed}
use Rattle.node.specs.Layout.{records_of, type_byte_among, type_byte_of}
use Rattle.node.specs.Rules.{property_ok}
use Rattle.node.specs.Verdict.{types_verdict}
use Rattle.node.proofs.NodeRefusals.{refusal_read}
use Rattle.node.proofs.Records.{type_byte_among_is}
use Rattle.node.proofs.reading.types_read.Goals as goal

-- the property's type byte is the file's
property_is : {b : Bool} {ty : ℕ} (file : List ℕ) (n property : ℕ) → n ≡ records_of file → ty ≡ type_byte_among file n property → b ≡ property_ok ty → b ≡ property_ok (type_byte_of file property)
property_is file n property e read made = made ∙ ap property_ok (read ∙ type_byte_among_is _ _ e _)

pub returns-in_err-check_records-clause-verdict_value : goal.returns-in_err-check_records-clause-verdict_value
unfolding types_verdict
returns-in_err-check_records-clause-verdict_value c =
    refusal_read _ c.from_residual.ensures
    ∙ all_stopped _ _ _ _ _ c.first_bad.ensures c.check_records.ensures c.in_err-check_records.was

pub returns-in_err-check-clause-verdict_value : goal.returns-in_err-check-clause-verdict_value
unfolding types_verdict
returns-in_err-check-clause-verdict_value c =
    let property = property_is _ _ c.args.property c.requires c.type_byte_among.ensures c.property_ok.ensures in
    rw (all_passed _ _ _ _ c.first_bad.ensures c.check_records.ensures c.in_ok-check_records.was)
    (refusal_read _ c.from_residual-in_err-check.ensures ∙ check_stopped _ _ _ _ _ property c.check.ensures c.in_err-check.was)

pub returns-clause-verdict_value : goal.returns-clause-verdict_value
unfolding types_verdict
returns-clause-verdict_value c =
    let property = property_is _ _ c.args.property c.requires c.type_byte_among.ensures c.property_ok.ensures in
    rw (all_passed _ _ _ _ c.first_bad.ensures c.check_records.ensures c.in_ok-check_records.was, check_passed _ _ _ _ property c.check.ensures c.in_ok-check.was)
