-- `arithmetic::are_zero` meets its contract: the sum at each variable that each literal names is 0.
use mathlib.Core.Path.{refl}
use Rattle.std.proofs.Common.{rules, tests}
use Rattle.answers.proofs.Ranges.{every_from_all}
use Rattle.constraints.specs.Layout.{constraint_at}
use Rattle.arithmetic.specs.Sums.{place_of, terms_zero}
use Rattle.arithmetic.proofs.sums.are_zero.Goals as goal

pub returns : goal.returns
returns c =
    let a = c.args in
    every_from_all (λ j. terms_zero a.sums.now (constraint_at a.file.now (place_of a.file.now a.start a.at j))) a.count c.all.ensures.ran refl
    (λ x y q k. search (rules, tests))
