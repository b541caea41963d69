-- `arithmetic::are_others` meets its contract: each literal is on a constraint, with a multiplier of kind 4.
use mathlib.Core.Path.{refl}
use Rattle.std.proofs.Common.{rules, tests}
use Rattle.answers.proofs.Ranges.{every_from_all}
use Rattle.constraints.specs.Layout.{literal_at, multiplier_at}
use Rattle.rules.specs.Cuts.{other_ok}
use Rattle.arithmetic.proofs.cuts.are_others.Goals as goal

pub returns : goal.returns
returns c =
    let a = c.args in
    every_from_all (λ j. other_ok (literal_at a.file.now a.at j) (multiplier_at a.file.now a.at j)) a.count c.all.ensures.ran refl
    (λ x y q k. search (rules, tests))
