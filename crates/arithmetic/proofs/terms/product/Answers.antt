-- `arithmetic::product` meets its contract: the product of the bounds fits.
use native.Mathlib.Omega.{arith}
use Rattle.integers.proofs.Small.{small_product_fits, small_product}
use Rattle.arithmetic.proofs.terms.product.Goals as goal

pub overflow_mul-result : goal.overflow_mul-result
overflow_mul-result c = small_product_fits c.ranges.factor c.ranges.n c.requires.0 c.requires.1 (omega arith)

pub returns : goal.returns
returns c = small_product c.ranges.factor c.ranges.n c.requires.0 c.requires.1 (omega arith)
