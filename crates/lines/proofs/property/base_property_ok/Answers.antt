-- `lines::base_property_ok` meets its contract: the tests in a row.
use mathlib.Core.Path.{◌≡◌, refl, sym, ◌∙◌, ap}
use mathlib.Core.Bool.{Bool, true, false, ◌&&◌}
use Prim.Native.Nat.{ℕ, ◌+◌, ◌≤◌}
use native.Mathlib.Omega.{arith}
use borrow.Author.Tests.{eqb-true}
use lib.Dec.{eqb}
use Rattle.answers.specs.Checks.{every}
use Rattle.constraints.specs.Layout.{Line, listed_in, line_with}
use Rattle.constraints.proofs.Blocks.{listed_is}
use Rattle.rules.specs.Lines.{not_property_at, base_property_ok}
use Rattle.lines.proofs.property.base_property_ok.Goals as goal

-- a line of n literals lists n
n_listed : (line : Line) (n : ℕ) → n ≤ 9 → (z : Bool) (ok : ℕ → Bool) → (z && eqb line.head.count n && every ok n) ≡ (z && eqb line.head.count n && every ok (listed_in line))
n_listed line n few false ok = refl
n_listed line n few true ok = go (eqb line.head.count n) refl
  where
    go : (b : Bool) → eqb line.head.count n ≡ b → (b && every ok n) ≡ (b && every ok (listed_in line))
    go false e = refl
    go true e =
        let same = eqb-true line.head.count n e in
        ap (every ok) (sym (listed_is line (omega (arith, same)) ∙ same))

pub returns : goal.returns
unfolding base_property_ok
returns c =
    let a = c.args in
    let line = line_with a.file.now a.at a.h in
    rw c.are_not_property.ensures
    (n_listed line (a.k + 1) (omega (arith, c.requires.1)) (eqb line.head.q 0) (not_property_at a.prop line.literal))
