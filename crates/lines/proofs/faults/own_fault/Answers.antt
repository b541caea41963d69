-- `lines::own_fault` meets its contract: each way out is the rule of the line's kind.
use mathlib.Core.Path.{◌≡◌, refl, sym, ◌∙◌, ap}
use mathlib.Core.Bool.{Bool, true, false, cond}
use Prim.Native.Nat.{ℕ, zero, suc, ◌≤◌}
use Rattle.answers.specs.declared.Place.TheVariants.{Line}
use Rattle.answers.specs.Answer.{Answer}
use Rattle.answers.specs.Checks.{check}
use Rattle.answers.proofs.Checks.{on_pass}
use Rattle.std.specs.Prelude.{Ok}
use Rattle.lines.specs.Faults.{fault_at}
use native.Mathlib.Omega.{arith}
use Rattle.constraints.specs.declared.layout.LineHead.{LineHead}
use Rattle.constraints.specs.Layout.{line_of}
use Rattle.rules.proofs.LineFaults.{fault_1, fault_2, fault_3, fault_4, fault_5}
use Rattle.arithmetic.specs.Checkable.{Checkable}
use Rattle.arithmetic.proofs.Cutting.{cut_clear}
use Rattle.arithmetic.proofs.Deciding.{passed_clear}
use Rattle.lines.proofs.LineFacts.{kind_is, line_shape_is, line_checkable, equation_is, property_is, join_is, arithmetic_is, cut_is}
use Rattle.lines.proofs.faults.own_fault.Goals as goal

-- a check by a rule's test is the fault that has its number where the test fails
told : (i number : ℕ) {r : Answer (Unit {0})} {fault : ℕ} (made ok : Bool) → 1 ≤ number → r ≡ check made number (Line i) (Ok tt) → made ≡ ok → cond ok 0 number ≡ fault → r ≡ fault_at i fault
told i number made ok l is same e = is ∙ ap (λ (b : Bool). check b number (Line i) (Ok tt)) same ∙ by_test number ok l ∙ ap (fault_at i) e
  where
    by_test : (number : ℕ) (b : Bool) → 1 ≤ number → check b number (Line i) (Ok tt) ≡ fault_at i (cond b 0 number)
    by_test number true l = refl
    by_test zero false l = absurd (omega (arith, l))
    by_test (suc n) false l = refl

pub returns-in-1-clause-answer : goal.returns-in-1-clause-answer
returns-in-1-clause-answer c =
    told _ 17 _ _ (omega arith) c.check.ensures
    (c.equation_passes.ensures ∙ equation_is _ _ _ c.requires.checking.0 _ _ c.requires.checking.1)
    (sym (fault_1 _ _ _ _ _ _ (kind_is _ _ _ c.requires.checking.0 _ _ c.requires.checking.1 _ c.requires.checking.2 ∙ c.in-1.is)))

pub returns-in-2-clause-answer : goal.returns-in-2-clause-answer
returns-in-2-clause-answer c =
    told _ 18 _ _ (omega arith) c.check-in-2.ensures
    (c.property_passes.ensures ∙ property_is _ _ _ c.requires.checking.0 _ _ c.requires.checking.1 _ c.requires.checking.2)
    (sym (fault_2 _ _ _ _ _ _ (kind_is _ _ _ c.requires.checking.0 _ _ c.requires.checking.1 _ c.requires.checking.2 ∙ c.in-2.is)))

pub returns-in-3-clause-answer : goal.returns-in-3-clause-answer
returns-in-3-clause-answer c =
    told _ 19 _ _ (omega arith) c.check-in-3.ensures
    (c.join_passes.ensures ∙ join_is _ _ _ c.requires.checking.0 _)
    (sym (fault_3 _ _ _ _ _ _ (kind_is _ _ _ c.requires.checking.0 _ _ c.requires.checking.1 _ c.requires.checking.2 ∙ c.in-3.is)))

pub arithmetic_ok-requires : goal.arithmetic_ok-requires
arithmetic_ok-requires c =
    let its_checkable : (Checkable c.args.cert.now c.args.f.start c.args.at) = line_checkable _ _ _ c.requires.checking.0 _ _ c.requires.checking.1 (omega (arith, c.requires.checking.0.room, c.requires.checking.1, c.requires.i_value.1)) c.requires.i_value.0 in
    let shape = line_shape_is _ _ _ c.requires.checking.0 _ _ c.requires.checking.1 c.requires.i_value.0 in
    let counted = ap (λ (h : LineHead). h.count) c.requires.checking.2 in
    let kind = sym (ap (λ (h : LineHead). h.kind) c.requires.checking.2) ∙ c.in-4.is in
    record { checkable = (its_checkable, counted); by_index = (λ j l. shape.multipliers kind j (omega (arith, counted))); sums_value = c.requires.sums_value }

pub returns-in-4 : goal.returns-in-4
returns-in-4 c =
    record {
      answer = told _ 20 _ _ (omega arith) c.check-in-4.ensures
          (c.arithmetic_ok.ensures.answer ∙ arithmetic_is _ _ _ c.requires.checking.0 _ _ c.requires.checking.1)
          (sym (fault_4 _ _ _ _ _ _ (kind_is _ _ _ c.requires.checking.0 _ _ c.requires.checking.1 _ c.requires.checking.2 ∙ c.in-4.is)));
      cleared = on_pass _ _ _ c.check-in-4.ensures (λ e. c.arithmetic_ok.ensures.sums ∙ passed_clear _ _ (sym c.arithmetic_ok.ensures.answer ∙ e));
    }

pub cut_ok-requires : goal.cut_ok-requires
cut_ok-requires c =
    let its_checkable : (Checkable c.args.cert.now c.args.f.start c.args.at) = line_checkable _ _ _ c.requires.checking.0 _ _ c.requires.checking.1 (omega (arith, c.requires.checking.0.room, c.requires.checking.1, c.requires.i_value.1)) c.requires.i_value.0 in
    record { checkable = (its_checkable, c.requires.checking.2); sums_value = c.requires.sums_value }

pub returns-in_default : goal.returns-in_default
returns-in_default c =
    let kind = kind_is _ _ _ c.requires.checking.0 _ _ c.requires.checking.1 _ c.requires.checking.2 in
    let shape = line_shape_is _ _ _ c.requires.checking.0 _ _ c.requires.checking.1 c.requires.i_value.0 in
    let kind_5 : (line_of c.args.cert.now c.args.i).head.kind ≡ 5 = omega (arith, shape.least, shape.most, kind, ap (λ (h : LineHead). h.kind) c.requires.checking.2) in
    record {
      answer = told _ 22 _ _ (omega arith) c.check-in_default.ensures
          (c.cut_ok.ensures.answer ∙ cut_is _ _ _ c.requires.checking.0 _ _ c.requires.checking.1)
          (sym (fault_5 _ _ _ _ _ _ kind_5));
      cleared = on_pass _ _ _ c.check-in_default.ensures (λ e. c.cut_ok.ensures.sums ∙ cut_clear _ _ (sym c.cut_ok.ensures.answer ∙ e));
    }
