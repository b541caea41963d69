-- `certificate::has_empty` meets its contract. The loop's invariant: each line from i on has literals.
use mathlib.Core.Path.{◌≡◌, sym, ◌∙◌, ap, subst}
use mathlib.Core.Logic.{⊎_elim}
use mathlib.Core.Bool.{not}
use Prim.Native.Nat.{ℕ, ◌+◌, ◌-◌, ◌<◌, ◌≤◌}
use native.Mathlib.Nat.{eq-or-lt_of_le}
use native.Mathlib.Omega.{arith}
use borrow.Author.Rules.{rules}
use borrow.Author.Tests.{eq-eqb, ne_eqb}
use Rattle.answers.proofs.Every.{every_not, every_of}
use Rattle.constraints.specs.declared.layout.LineHead.{LineHead}
use Rattle.lines.specs.Frame.{lines_at}
use Rattle.certificate.proofs.parts.has_empty.Goals as goal

-- from one line lower on
one_more : (P : ℕ → Type 0) (left n : ℕ) → P (left - 1) → ((k : ℕ) → left ≤ k → k < n → P k) → (k : ℕ) → left - 1 ≤ k → k < n → P k
one_more P left n here rest k l m =
    ⊎_elim (λ (e : left - 1 ≡ k). subst P e here) (λ (h : left - 1 < k). rest k (omega arith) m) (eq-or-lt_of_le l)

pub loop-i-init : goal.loop-i-init
loop-i-init c = (search rules, λ k l m. absurd (omega arith))

pub returns-then-head-eq0 : goal.returns-then-head-eq0
returns-then-head-eq0 c =
    let count_is : (let a = c.args in (lines_at a.file.now a.lines (a.from + (c.loop-i.i - 1))).head.count ≡ c.line_head-head.result.count) = ap (λ (h : LineHead). h.count) (sym (rw c.block_at.ensures at c.line_head-head.ensures)) in
    sym
    (ap not
    (every_not _ _ _ (omega (arith, c.loop-i.invariant.0)) (ap not (eq-eqb _ _ (count_is ∙ c.if-head-eq0.true)))))

pub loop-i-preserved : goal.loop-i-preserved
loop-i-preserved c =
    let count_is : (let a = c.args in (lines_at a.file.now a.lines (a.from + (c.loop-i.i - 1))).head.count ≡ c.line_head-head.result.count) = ap (λ (h : LineHead). h.count) (sym (rw c.block_at.ensures at c.line_head-head.ensures)) in (
      search rules,
      one_more _ _ _ (ap not (ne_eqb _ _ (λ e. c.if-head-eq0.false (sym count_is ∙ e)))) c.loop-i.invariant.1,
    )

pub returns : goal.returns
returns c = sym (ap not (every_of _ _ (λ k l. c.loop-i.invariant.1 k (omega arith) l)))
