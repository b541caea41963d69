-- `certificate::first_bad` meets its contract. The loop's invariant: each constraint passed keeps its rules.
use mathlib.Core.Path.{sym, ◌∙◌}
use native.Mathlib.Omega.{arith}
use borrow.Author.Count.{below_none, below_more}
use borrow.Author.Rules.{rules}
use Rattle.answers.proofs.Lowest.{none, found}
use Rattle.certificate.proofs.constraint_rules.first_bad.Goals as goal

pub loop-i-init : goal.loop-i-init
loop-i-init c = (search rules, below_none _)

pub returns-then-not-constraint_ok : goal.returns-then-not-constraint_ok
returns-then-not-constraint_ok c =
    sym
    (found _ _ _ c.loop-i-test.true c.loop-i.invariant.1
    (sym (rw c.block_at.ensures at c.constraint_ok.ensures) ∙ c.if-not-constraint_ok.true))

pub loop-i-preserved : goal.loop-i-preserved
loop-i-preserved c = (
  search rules,
  below_more _ _ c.loop-i.invariant.1
      (sym (rw c.block_at.ensures at c.constraint_ok.ensures) ∙ c.if-not-constraint_ok.false),
)

pub returns : goal.returns
returns c = sym (none _ _ (λ j l. c.loop-i.invariant.1 j (omega arith)))
