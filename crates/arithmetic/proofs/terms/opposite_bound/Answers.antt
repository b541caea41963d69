-- `arithmetic::opposite_bound` meets its contract, by the literal's sign.
use mathlib.Core.Path.{sym, ◌∙◌}
use mir.Syntax.{w64}
use mir.ValLaws.{to_z-of_z}
use Rattle.arithmetic.specs.Sums.{opposite_bound}
use Rattle.arithmetic.proofs.Words.{minus_fits, opposite_fits, opposite_word}
use Rattle.arithmetic.proofs.terms.opposite_bound.Goals as goal

pub overflow_sub-result : goal.overflow_sub-result
overflow_sub-result c = minus_fits c.args.bound c.requires

pub overflow_sub-result-else-sign : goal.overflow_sub-result-else-sign
overflow_sub-result-else-sign c = opposite_fits c.args.bound c.requires

pub returns-then-sign : goal.returns-then-sign
unfolding opposite_bound
returns-then-sign c = rw (sym c.sign.ensures ∙ c.if-sign.true) (to_z-of_z w64 _ c.ranges.bound)

pub returns-else-sign : goal.returns-else-sign
unfolding opposite_bound
returns-else-sign c = rw (sym c.sign.ensures ∙ c.if-sign.false) (opposite_word c.args.bound c.requires)
