-- `histories::is_counted` meets its contract: the product is formed only where it is at most the length.
use mathlib.Core.Path.{refl, sym}
use native.Mathlib.Omega.{arith}
use Rattle.histories.specs.History.{count_ok}
use Rattle.histories.proofs.Parts.{without, too_few, product_fits}
use Rattle.histories.proofs.is_counted.Goals as goal

pub returns-then-m-eq0 : goal.returns-then-m-eq0
returns-then-m-eq0 c = without _ _ _ c.if-m-eq0.true

pub returns-then-length-m : goal.returns-then-length-m
returns-then-length-m c = sym (too_few _ _ _ c.if-m-eq0.false c.if-length-m.true)

pub overflow_mul-result : goal.overflow_mul-result
overflow_mul-result c = let p = product_fits _ _ c.args.inputs.now c.if-m-eq0.false c.if-length-m.false in omega (arith, p, c.well_formed.0)

pub returns : goal.returns
unfolding count_ok
returns c = refl
