-- `look_up::look_up` meets its contract: the node's own refusals, 31, 33, then the rest.
use mathlib.Core.Path.{◌≡◌, refl, sym, ◌∙◌, ap}
use mathlib.Core.Bool.{Bool, true}
use mathlib.Core.List.{List}
use Prim.Native.Nat.{ℕ, ◌*◌}
use lib.IntN.{ℤ}
use lib.ListN.{length}
use Rattle.answers.proofs.Checks.{handed_on, check_stopped, check_passed, all_stopped, all_passed}
use Rattle.answers.specs.Answer.{accepted, is_accepted}
use Rattle.answers.specs.declared.NodeValues.{NodeValues}
use Rattle.node.specs.Inputs.{input_count}
use Rattle.node.specs.Layout.{streams_of}
use Rattle.node.specs.Verdict.{verdict_of}
use Rattle.node.proofs.Outcomes.{accepted_values}
use Rattle.histories.specs.History.{count_ok}
use Rattle.histories.proofs.Parts.{is_count}
use Rattle.look_up.specs.LookUp.{is_in, history_answer, look_up_of}
use Rattle.look_up.proofs.Answers.{in_history, passed, answer_told, rest_is}
use Rattle.look_up.proofs.answering.look_up.Goals as goal

-- 31 is of the file's own count of inputs
counted_is : {b : Bool} {m : ℕ} (file : List ℕ) (count : ℕ) (inputs : List ℤ) → b ≡ count_ok count m inputs → m ≡ input_count file → b ≡ count_ok count (input_count file) inputs
counted_is file count inputs made e = made ∙ ap (λ (m : ℕ). count_ok count m inputs) e

-- what is known of an accepted file and a history that passes 31
asked_of : (file : List ℕ) (node : NodeValues) (count m : ℕ) (inputs : List ℤ) → verdict_of file ≡ accepted node → m ≡ input_count file → count_ok count (input_count file) inputs ≡ true → (is_accepted (verdict_of file) ≡ true) × (node.streams ≡ streams_of file) × (m ≡ input_count file) × (length inputs ≡ count * m)
asked_of file node count m inputs accepts m_is counted = (
  ap is_accepted accepts,
  ap (λ (v : NodeValues). v.streams) (accepted_values _ accepts),
  m_is,
  rw m_is (is_count _ _ _ counted),
)

-- 65 is of the file's own count of streams
in_is : (n k count stream instant : ℕ) → n ≡ k → is_in n count stream instant ≡ is_in k count stream instant
in_is n k count stream instant e = rw e

pub returns-in_err-n : goal.returns-in_err-n
unfolding look_up_of
returns-in_err-n c = rw (sym c.verdict.ensures ∙ c.in_err-n.was) (handed_on _ c.from_residual.ensures)

pub returns-in_err-check : goal.returns-in_err-check
unfolding look_up_of history_answer
returns-in_err-check c =
    let counted = counted_is c.args.file.now _ _ c.is_counted.ensures c.input_count-m.ensures in
    rw (sym c.verdict.ensures ∙ c.in_ok-n.was)
    (handed_on _ c.from_residual-in_err-check.ensures ∙ check_stopped _ _ _ _ _ counted c.check.ensures c.in_err-check.was)

pub bad_input-requires : goal.bad_input-requires
bad_input-requires c =
    let counted = counted_is c.args.file.now _ _ c.is_counted.ensures c.input_count-m.ensures in
    asked_of _ _ _ _ _ (sym c.verdict.ensures ∙ c.in_ok-n.was) c.input_count-m.ensures (check_passed _ _ _ _ counted c.check.ensures c.in_ok-check.was)

pub returns-in_err-check_records : goal.returns-in_err-check_records
unfolding look_up_of history_answer
returns-in_err-check_records c =
    let counted = counted_is c.args.file.now _ _ c.is_counted.ensures c.input_count-m.ensures in
    rw (sym c.verdict.ensures ∙ c.in_ok-n.was, check_passed _ _ _ _ counted c.check.ensures c.in_ok-check.was)
    (handed_on _ c.from_residual-in_err-check_records.ensures ∙ all_stopped _ _ _ _ _ c.bad_input.ensures c.check_records.ensures c.in_err-check_records.was)

pub returns-in_err-check-2 : goal.returns-in_err-check-2
unfolding is_in
returns-in_err-check-2 c =
    let accepts = sym c.verdict.ensures ∙ c.in_ok-n.was in
    let counted = counted_is c.args.file.now _ _ c.is_counted.ensures c.input_count-m.ensures in
    let passes = check_passed _ _ _ _ counted c.check.ensures c.in_ok-check.was in
    let typed = all_passed _ _ _ _ c.bad_input.ensures c.check_records.ensures c.in_ok-check_records.was in
    let inside = in_is _ _ c.args.count c.args.stream c.args.instant (ap (λ (v : NodeValues). v.streams) (accepted_values _ accepts)) in
    handed_on _ c.from_residual-in_err-check-2.ensures ∙ check_stopped _ _ _ _ _ inside c.check-2.ensures c.in_err-check-2.was ∙ sym (rest_is _ _ _ _ _ accepts passes typed)

pub invariant_of-history : goal.invariant_of-history
invariant_of-history c =
    let counted = counted_is c.args.file.now _ _ c.is_counted.ensures c.input_count-m.ensures in
    let asked = asked_of _ _ _ _ _ (sym c.verdict.ensures ∙ c.in_ok-n.was) c.input_count-m.ensures (check_passed _ _ _ _ counted c.check.ensures c.in_ok-check.was) in
    record { accepted = asked.0; streams = asked.1; inputs_each = asked.2; counted = asked.3 }

pub told-requires : goal.told-requires
unfolding is_in
told-requires c = check_passed _ _ _ _ refl c.check-2.ensures c.in_ok-check-2.was

pub returns : goal.returns
unfolding is_in
returns c =
    let a = c.args in
    let accepts = sym c.verdict.ensures ∙ c.in_ok-n.was in
    let counted = counted_is a.file.now _ _ c.is_counted.ensures c.input_count-m.ensures in
    let passes = check_passed _ _ _ _ counted c.check.ensures c.in_ok-check.was in
    let typed = all_passed _ _ _ _ c.bad_input.ensures c.check_records.ensures c.in_ok-check_records.was in
    let streams_is = ap (λ (v : NodeValues). v.streams) (accepted_values _ accepts) in
    let inside : (is_in c.in_ok-n.field-0.streams a.count a.stream a.instant ≡ true) = check_passed _ _ _ _ refl c.check-2.ensures c.in_ok-check-2.was in
    let i = in_history _ _ _ _ (rw streams_is at inside) in
    passed _ _ _ _ streams_is inside (c.ok_or.ensures.value ∙ answer_told _ accepts _ _ _ _ i _ c.told.ensures) ∙ sym (rest_is _ _ _ _ _ accepts passes typed)
