-- `matching::coefficient_at` meets its contract. The loop's invariant: the sum is the coefficient of the terms passed, and at
-- most 2^31 for each.
use mathlib.Core.Path.{refl, sym, ◌∙◌, ap₂}
use Prim.Native.Nat.{◌<◌}
use native.Mathlib.Omega.{arith}
use lib.IntN.{◌+ℤ◌}
use borrow.Author.Rules.{rules}
use Rattle.constraints.specs.Layout.{constraint_at}
use Rattle.constraints.specs.Linear.{written}
use Rattle.matching.proofs.Coefficients.{written_more, turn, turn_limit}
use Rattle.matching.proofs.content.coefficient_at.Goals as goal

pub loop-j-init : goal.loop-j-init
unfolding written
loop-j-init c = (refl, search rules)

pub loop-j-preserved : goal.loop-j-preserved
loop-j-preserved c =
    let loop = c.loop-j in
    let s = c.args in
    let few : loop.j < 8 = omega arith in (
      turn c.share_at-sum.result loop.sum-bits loop.j few c.share_at-sum.ensures.1 loop.invariant.1
          ∙ ap₂ ◌+ℤ◌ c.share_at-sum.ensures.0 loop.invariant.0
          ∙ sym (written_more (constraint_at s.file.now s.at) loop.j s.x),
      turn_limit c.share_at-sum.result loop.sum-bits loop.j few c.share_at-sum.ensures.1 loop.invariant.1,
    )
