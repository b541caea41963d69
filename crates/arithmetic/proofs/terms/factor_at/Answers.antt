-- `arithmetic::factor_at` meets its contract, by the literal's sign.
use mathlib.Core.Path.{sym, ◌∙◌, ap}
use native.Mathlib.Omega.{arith}
use Rattle.literals.specs.Literals.{is_negated}
use Rattle.arithmetic.specs.Sums.{factor_of}
use Rattle.arithmetic.proofs.Words.{multiplier_word, negated_fits, negated_word}
use Rattle.arithmetic.proofs.terms.factor_at.Goals as goal

pub overflow_sub-result : goal.overflow_sub-result
overflow_sub-result c = negated_fits c.multiplier_at-multiplier.result (omega arith)

pub returns-then-sign : goal.returns-then-sign
unfolding factor_of
returns-then-sign c =
    let sign = ap is_negated (sym c.literal_at-literal.ensures) ∙ sym c.sign.ensures ∙ c.if-sign.true in
    rw (sign, ← c.multiplier_at-multiplier.ensures) (multiplier_word c.multiplier_at-multiplier.result (omega arith))

pub returns-else-sign : goal.returns-else-sign
unfolding factor_of
returns-else-sign c =
    let sign = ap is_negated (sym c.literal_at-literal.ensures) ∙ sym c.sign.ensures ∙ c.if-sign.false in
    rw (sign, ← c.multiplier_at-multiplier.ensures) (negated_word c.multiplier_at-multiplier.result (omega arith))
