-- `lines::stands_from` meets its contract: some literal from j on is l.
use mathlib.Core.Path.{refl, ◌∙◌}
use Prim.Native.Nat.{◌-◌}
use lib.Dec.{eqb}
use Rattle.std.proofs.Common.{rules, tests}
use Rattle.std.proofs.lemmas.Iterator.{YieldsList-from_range}
use Rattle.std.proofs.lemmas.Iterator.Search.{any_from_yields_List}
use Rattle.constraints.specs.Layout.{literal_at}
use Rattle.lines.proofs.Standing.{stands_any}
use Rattle.lines.proofs.search.stands_from.Goals as goal

pub returns : goal.returns
returns c =
    let a = c.args in
    any_from_yields_List (λ i. eqb (literal_at a.file.now a.at i) a.l.0) _ _ _ c.any.ensures.ran (YieldsList-from_range a.j a.count (a.count - a.j) refl refl)
    (λ x b q k. search (rules, tests))
    ∙ stands_any (literal_at a.file.now a.at) a.l.0 a.j (a.count - a.j)
