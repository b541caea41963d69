-- `ranges::multiple` meets its contract: ends within ±4,000,000,000 fit, whatever the constant, and its sign is known in each arm.
use mathlib.Core.Path.{sym, ◌∙◌, ap}
use lib.IntN.{pos}
use lib.Signed.{le_z}
use Rattle.ranges.specs.Results.{multiple_of}
use Rattle.ranges.proofs.Words.{same_ends, widened, multiple_fits, multiple_is}
use Rattle.ranges.proofs.results.multiple.Goals as goal

pub overflow_mul-x : goal.overflow_mul-x
overflow_mul-x c = multiple_fits c.ranges.k c.from-k.ensures c.args.a.least c.requires.least

pub overflow_mul-y : goal.overflow_mul-y
overflow_mul-y c = multiple_fits c.ranges.k c.from-k.ensures c.args.a.greatest c.requires.greatest

pub returns-then-k-ge0 : goal.returns-then-k-ge0
unfolding multiple_of
returns-then-k-ge0 c =
    let k_is = widened c.ranges.k c.from-k.ensures in
    let times = multiple_is c.ranges.k c.from-k.ensures in
    rw (ap (le_z (pos 0)) (sym k_is) ∙ c.if-k-ge0.true)
    (same_ends (times _ c.requires.least) (times _ c.requires.greatest))

pub returns-else-k-ge0 : goal.returns-else-k-ge0
unfolding multiple_of
returns-else-k-ge0 c =
    let k_is = widened c.ranges.k c.from-k.ensures in
    let times = multiple_is c.ranges.k c.from-k.ensures in
    rw (ap (le_z (pos 0)) (sym k_is) ∙ c.if-k-ge0.false)
    (same_ends (times _ c.requires.greatest) (times _ c.requires.least))
