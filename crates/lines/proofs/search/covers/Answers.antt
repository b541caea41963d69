-- `lines::covers` meets its contract: each literal is covered.
use mathlib.Core.Path.{refl}
use Rattle.std.proofs.Common.{rules, tests}
use Rattle.answers.proofs.Ranges.{every_from_all}
use Rattle.constraints.specs.Layout.{literal_at}
use Rattle.rules.specs.Joins.{covered_by}
use Rattle.lines.proofs.search.covers.Goals as goal

pub returns : goal.returns
returns c =
    let a = c.args in
    every_from_all (covered_by (literal_at a.file.now a.at) a.but.0 (literal_at a.file.now a.other) a.others) a.count c.all.ensures.ran refl
    (λ x y q k. search (rules, tests))
