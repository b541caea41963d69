-- `lines::are_not_property` meets its contract: each literal is not-prop at its offset.
use mathlib.Core.Path.{refl}
use Rattle.std.proofs.Common.{rules, tests}
use Rattle.answers.proofs.Ranges.{every_from_all}
use Rattle.constraints.specs.Layout.{literal_at}
use Rattle.rules.specs.Lines.{not_property_at}
use Rattle.lines.proofs.property.are_not_property.Goals as goal

pub returns : goal.returns
returns c =
    let a = c.args in
    every_from_all (not_property_at a.prop (literal_at a.file.now a.at)) a.n c.all.ensures.ran refl (λ x y q k. search (rules, tests))
