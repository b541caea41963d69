-- `session::outcome_of` meets its contract: each test in its turn is the definition's.
use mathlib.Core.Path.{◌≡◌, refl, sym, ◌∙◌, ap}
use mathlib.Core.Bool.{true}
use mathlib.Core.List.{List}
use Prim.Native.Nat.{ℕ}
use native.Mathlib.Omega.{arith}
use lib.Dec.{eqb}
use lib.IntN.{ℤ}
use lib.ListN.{length, take}
use Rattle.answers.proofs.Checks.{handed_on, check_stopped, check_passed, all_stopped, all_passed}
use Rattle.answers.specs.Answer.{answer_map}
use Rattle.answers.specs.Checks.{lowest}
use Rattle.node.specs.Inputs.{input_count}
use Rattle.node.specs.Layout.{streams_of}
use Rattle.streams.specs.Instant.{input_fits}
use Rattle.session.specs.Records.{held_file, holds_node}
use Rattle.session.proofs.Answering.{holds_none, holds_one, held_short, held_accepted, held_sizes, answer_by}
use Rattle.session.proofs.outcomes.outcome_of.Goals as goal

pub returns-in_default-clause-answer_value : goal.returns-in_default-clause-answer_value
returns-in_default-clause-answer_value c =
    let a = c.args in
    ap (answer_map (λ (values : List ℤ). tt)) c.refused.ensures
    ∙ answer_by a.s.now a.inputs.now a.room (holds_none a.s.now (sym c.in_default.ensures.node_value)) refl refl refl refl

pub shared_ref_as_front-node : goal.shared_ref_as_front-node
shared_ref_as_front-node c =
    let a = c.args in
    let one : (holds_node a.s.now ≡ true) × (c.in-Some.found.streams ≡ streams_of (held_file a.s.now)) = holds_one a.s.now (sym c.in-Some.ensures.node_value) in
    held_short a.s.now one.0

pub returns-in_err-check-clause-answer_value : goal.returns-in_err-check-clause-answer_value
returns-in_err-check-clause-answer_value c =
    let a = c.args in
    let one : (holds_node a.s.now ≡ true) × (c.in-Some.found.streams ≡ streams_of (held_file a.s.now)) = holds_one a.s.now (sym c.in-Some.ensures.node_value) in
    let count_is : eqb (length a.inputs.now) c.input_count.result ≡ eqb (length a.inputs.now) (input_count (held_file a.s.now)) = ap (eqb (length a.inputs.now)) c.input_count.ensures in
    ap (answer_map (λ (values : List ℤ). tt)) (handed_on _ c.from_residual.ensures)
    ∙ check_stopped _ _ _ _ _ count_is c.check.ensures c.in_err-check.was
    ∙ answer_by a.s.now a.inputs.now a.room one.0 refl refl refl refl

pub returns-in_err-check-2-clause-answer_value : goal.returns-in_err-check-2-clause-answer_value
returns-in_err-check-2-clause-answer_value c =
    let a = c.args in
    let one : (holds_node a.s.now ≡ true) × (c.in-Some.found.streams ≡ streams_of (held_file a.s.now)) = holds_one a.s.now (sym c.in-Some.ensures.node_value) in
    let count_is : eqb (length a.inputs.now) c.input_count.result ≡ eqb (length a.inputs.now) (input_count (held_file a.s.now)) = ap (eqb (length a.inputs.now)) c.input_count.ensures in
    let counted = check_passed _ _ _ _ count_is c.check.ensures c.in_ok-check.was in
    let size_is : eqb a.room c.in-Some.found.streams ≡ eqb a.room (streams_of (held_file a.s.now)) = ap (eqb a.room) one.1 in
    ap (answer_map (λ (values : List ℤ). tt)) (handed_on _ c.from_residual-in_err-check-2.ensures)
    ∙ check_stopped _ _ _ _ _ size_is c.check-2.ensures c.in_err-check-2.was
    ∙ answer_by a.s.now a.inputs.now a.room one.0 counted refl refl refl

pub returns-in_err-check_records-clause-answer_value : goal.returns-in_err-check_records-clause-answer_value
returns-in_err-check_records-clause-answer_value c =
    let a = c.args in
    let one : (holds_node a.s.now ≡ true) × (c.in-Some.found.streams ≡ streams_of (held_file a.s.now)) = holds_one a.s.now (sym c.in-Some.ensures.node_value) in
    let count_is : eqb (length a.inputs.now) c.input_count.result ≡ eqb (length a.inputs.now) (input_count (held_file a.s.now)) = ap (eqb (length a.inputs.now)) c.input_count.ensures in
    let counted = check_passed _ _ _ _ count_is c.check.ensures c.in_ok-check.was in
    let size_is : eqb a.room c.in-Some.found.streams ≡ eqb a.room (streams_of (held_file a.s.now)) = ap (eqb a.room) one.1 in
    let sized = check_passed _ _ _ _ size_is c.check-2.ensures c.in_ok-check-2.was in
    let bad_is : c.first_bad.result ≡ lowest (input_fits (held_file a.s.now) a.inputs.now) (streams_of (held_file a.s.now)) = c.first_bad.ensures ∙ ap (lowest _) (held_sizes a.s.now one.0).records in
    ap (answer_map (λ (values : List ℤ). tt)) (handed_on _ c.from_residual-in_err-check_records.ensures)
    ∙ all_stopped _ _ _ _ _ bad_is c.check_records.ensures c.in_err-check_records.was
    ∙ answer_by a.s.now a.inputs.now a.room one.0 counted sized refl refl

pub shared_ref_as_front-worked_out : goal.shared_ref_as_front-worked_out
shared_ref_as_front-worked_out c =
    let a = c.args in
    let one : (holds_node a.s.now ≡ true) × (c.in-Some.found.streams ≡ streams_of (held_file a.s.now)) = holds_one a.s.now (sym c.in-Some.ensures.node_value) in
    omega (arith, one.1, (held_sizes a.s.now one.0).few)

pub worked_out-requires : goal.worked_out-requires
worked_out-requires c =
    let a = c.args in
    let one : (holds_node a.s.now ≡ true) × (c.in-Some.found.streams ≡ streams_of (held_file a.s.now)) = holds_one a.s.now (sym c.in-Some.ensures.node_value) in
    (held_accepted a.s.now one.0, ap (λ (n : ℕ). take n c.in-Some.found.order) one.1 ∙ c.in-Some.ensures.order_value)

pub returns-in-Ok-clause-answer_value : goal.returns-in-Ok-clause-answer_value
returns-in-Ok-clause-answer_value c =
    let a = c.args in
    let one : (holds_node a.s.now ≡ true) × (c.in-Some.found.streams ≡ streams_of (held_file a.s.now)) = holds_one a.s.now (sym c.in-Some.ensures.node_value) in
    let count_is : eqb (length a.inputs.now) c.input_count.result ≡ eqb (length a.inputs.now) (input_count (held_file a.s.now)) = ap (eqb (length a.inputs.now)) c.input_count.ensures in
    let counted = check_passed _ _ _ _ count_is c.check.ensures c.in_ok-check.was in
    let size_is : eqb a.room c.in-Some.found.streams ≡ eqb a.room (streams_of (held_file a.s.now)) = ap (eqb a.room) one.1 in
    let sized = check_passed _ _ _ _ size_is c.check-2.ensures c.in_ok-check-2.was in
    let bad_is : c.first_bad.result ≡ lowest (input_fits (held_file a.s.now) a.inputs.now) (streams_of (held_file a.s.now)) = c.first_bad.ensures ∙ ap (lowest _) (held_sizes a.s.now one.0).records in
    let typed = all_passed _ _ _ _ bad_is c.check_records.ensures c.in_ok-check_records.was in
    answer_by a.s.now a.inputs.now a.room one.0 counted sized typed (sym c.in-Ok.ensures.outside_value)

pub returns-in-Err-clause-answer_value : goal.returns-in-Err-clause-answer_value
returns-in-Err-clause-answer_value c =
    let a = c.args in
    let one : (holds_node a.s.now ≡ true) × (c.in-Some.found.streams ≡ streams_of (held_file a.s.now)) = holds_one a.s.now (sym c.in-Some.ensures.node_value) in
    let count_is : eqb (length a.inputs.now) c.input_count.result ≡ eqb (length a.inputs.now) (input_count (held_file a.s.now)) = ap (eqb (length a.inputs.now)) c.input_count.ensures in
    let counted = check_passed _ _ _ _ count_is c.check.ensures c.in_ok-check.was in
    let size_is : eqb a.room c.in-Some.found.streams ≡ eqb a.room (streams_of (held_file a.s.now)) = ap (eqb a.room) one.1 in
    let sized = check_passed _ _ _ _ size_is c.check-2.ensures c.in_ok-check-2.was in
    let bad_is : c.first_bad.result ≡ lowest (input_fits (held_file a.s.now) a.inputs.now) (streams_of (held_file a.s.now)) = c.first_bad.ensures ∙ ap (lowest _) (held_sizes a.s.now one.0).records in
    let typed = all_passed _ _ _ _ bad_is c.check_records.ensures c.in_ok-check_records.was in
    ap (answer_map (λ (values : List ℤ). tt)) c.refused-in-Err.ensures
    ∙ answer_by a.s.now a.inputs.now a.room one.0 counted sized typed (sym c.in-Err.ensures.outside_value)
