-- `certificate::next_lines` meets its contract. The loop's invariant: each line passed breaks no rule, and the sums are zero.
use mathlib.Core.Path.{◌≡◌, refl, sym, ◌∙◌, ap}
use mathlib.Core.Bool.{true, false}
use Prim.Native.Nat.{ℕ, zero, suc, ◌≤◌}
use lib.Dec.{eqb}
use native.Mathlib.Omega.{arith}
use borrow.Author.Count.{below_more}
use borrow.Author.Rules.{rules}
use borrow.Author.Tests.{eq-eqb, ne_eqb}
use lib.IntN.{pos}
use lib.ListN.{length, length-replicate}
use Rattle.answers.specs.declared.Place.TheVariants.{Line as AtLine}
use Rattle.answers.specs.declared.Refusal.{Refusal}
use Rattle.answers.specs.Answer.{Answer, refused}
use Rattle.answers.proofs.Checks.{handed_on}
use Rattle.lines.specs.Faults.{fault_at}
use Rattle.std.specs.Prelude.{Ok, Err}
use Rattle.rules.specs.Verdict.{line_passes}
use Rattle.rules.specs.Versions.{version2}
use Rattle.rules.proofs.Turns.{next_passed, next_refused}
use Rattle.certificate.proofs.checker.next_lines.Goals as goal

pub loop-i-init : goal.loop-i-init
loop-i-init c = (search rules, λ k l m. absurd (omega arith), refl)

pub slice_bounds-line_fault-end : goal.slice_bounds-line_fault-end
slice_bounds-line_fault-end c = sym (ap length c.loop-i.invariant.2 ∙ length-replicate 576 (pos 0))

pub line_fault-requires : goal.line_fault-requires
line_fault-requires c = record { checking = c.requires.checking; i_bound = omega (arith, c.requires.n_bound, c.loop-i-test.true); sums_value = c.loop-i.invariant.2 }

-- what a line that is refused says
fault_is : (i number : ℕ) {r : Answer (Unit {0})} {e : Refusal} → r ≡ fault_at i number → r ≡ Err e → (eqb number 0 ≡ false) × (◌≡◌ {A = Answer (Unit {0})} (Err e) (refused number (AtLine i)))
fault_is i zero is stops = cc
fault_is i (suc n) is stops = (ne_eqb _ _ (λ z. omega (arith, z)), sym stops ∙ is)

-- .. and one that is not
no_fault : (i number : ℕ) {r : Answer (Unit {0})} {x : Unit {0}} → r ≡ fault_at i number → r ≡ Ok x → number ≡ 0
no_fault i zero is passes = refl
no_fault i (suc n) is passes = cc

pub returns-in_err-line_fault : goal.returns-in_err-line_fault
returns-in_err-line_fault c =
    let inv = c.loop-i.invariant in
    let i = c.loop-i.i in
    let fault = fault_is i _ c.line_fault.ensures.answer c.in_err-line_fault.was in
    handed_on _ c.from_residual.ensures
    ∙ fault.1
    ∙ sym (next_refused version2 c.args.node.now c.args.cert.now c.args.line c.args.n i inv.0 c.loop-i-test.true inv.1 fault.0)

pub loop-i-preserved : goal.loop-i-preserved
loop-i-preserved c =
    let inv = c.loop-i.invariant in
    let i = c.loop-i.i in (
      search rules,
      λ k least l. below_more (λ (k : ℕ). c.args.line ≤ k → line_passes version2 c.args.node.now c.args.cert.now k ≡ true) i
          (λ k m n. inv.1 k n m) (λ _. eq-eqb _ _ (no_fault i _ c.line_fault.ensures.answer c.in_ok-line_fault.was)) k l least,
      c.in_ok-line_fault.ensures.cleared,
    )

pub returns : goal.returns
returns c =
    sym (next_passed version2 c.args.node.now c.args.cert.now c.args.line c.args.n
    (λ k least m. c.loop-i.invariant.1 k least (omega (arith, c.loop-i-test.false))))
