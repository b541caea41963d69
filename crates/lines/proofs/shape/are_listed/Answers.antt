-- `lines::are_listed` meets its contract: each literal and multiplier is right.
use mathlib.Core.Path.{refl}
use Rattle.std.proofs.Common.{rules, tests}
use Rattle.answers.proofs.Ranges.{every_from_all}
use Rattle.constraints.specs.Layout.{literal_at, multiplier_at}
use Rattle.constraints.specs.Rules.{types_of}
use Rattle.lines.specs.Slots.{listed_ok}
use Rattle.lines.proofs.shape.are_listed.Goals as goal

pub returns : goal.returns
returns c =
    let a = c.args in
    every_from_all (listed_ok (types_of a.types.now) a.k a.m a.h.kind (literal_at a.file.now a.at) (multiplier_at a.file.now a.at)) a.h.count c.all.ensures.ran refl
    (λ x y q k. search (rules, tests))
