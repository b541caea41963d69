-- `matching::do_variables_agree` meets its contract: three tests in a row, the last of the coefficient that was handed over, and the
-- first left out where it is one of the others.
use mathlib.Core.Path.{◌≡◌, refl, sym, ◌∙◌, ap, ap₂}
use mathlib.Core.Logic.{◌⊎◌, inl, inr}
use mathlib.Core.Bool.{Bool, true, false, ◌&&◌, ◌||◌, and-false}
use Prim.Native.Nat.{ℕ}
use mir.Syntax.{w64}
use mir.Val.{SFits, of_z}
use borrow.Author.Tests.{eqb-true}
use lib.Dec.{eqb}
use lib.IntN.{ℤ}
use Rattle.answers.proofs.Tests.{either_true}
use Rattle.constraints.specs.Layout.{constraint_at}
use Rattle.constraints.specs.Linear.{written, same_z, agree_at}
use Rattle.rules.specs.declared.pattern.Linear.{Linear}
use Rattle.rules.specs.Clauses.{bounded_of}
use Rattle.matching.specs.Content.{agree}
use Rattle.matching.proofs.Words.{same_word}
use Rattle.matching.proofs.content.do_variables_agree.Goals as goal

-- a test that is one of two others
left_out : (z y x : Bool) → (z ≡ x) ⊎ (z ≡ y) → (y && x) ≡ (z && y && x)
left_out z y true (inl e) = rw e
left_out z y false (inl e) = rw (e, and-false y)
left_out z true x (inr e) = rw e
left_out z false x (inr e) = rw e

in_a_row : (z y x : Bool) → (z && (y && x)) ≡ (z && y && x)
in_a_row true y x = refl
in_a_row false y x = refl

-- a third variable that is the first or the second
known : (agrees : ℕ → Bool) (d : Linear) → (eqb d.z d.x || eqb d.z d.y) ≡ true → (agrees d.z ≡ agrees d.x) ⊎ (agrees d.z ≡ agrees d.y)
known agrees d e = go (either_true (eqb d.z d.x) (eqb d.z d.y) e)
  where
    go : (eqb d.z d.x ≡ true) ⊎ (eqb d.z d.y ≡ true) → (agrees d.z ≡ agrees d.x) ⊎ (agrees d.z ≡ agrees d.y)
    go (inl p) = inl (ap agrees (eqb-true d.z d.x p))
    go (inr p) = inr (ap agrees (eqb-true d.z d.y p))

-- the two tests that were made
module _ (agrees : ℕ → Bool) (d : Linear) (made : Bool) (made_is : made ≡ agrees d.y) (f l x y : ℤ) (f-fits : SFits w64 f) (l-fits : SFits w64 l) (f-is : f ≡ x) (l-is : l ≡ y) (agree_x : agrees d.x ≡ same_z x y) where
  others : (made && eqb (of_z w64 f) (of_z w64 l)) ≡ (agrees d.y && agrees d.x)
  others = ap₂ ◌&&◌ made_is (same_word f l f-fits l-fits ∙ ap₂ same_z f-is l-is ∙ sym agree_x)

pub returns-then-d : goal.returns-then-d
unfolding agree_at
returns-then-d c =
    let d = c.args.d in
    let agrees : ℕ → Bool = agree (written (constraint_at c.args.file.now c.args.at) c.args.count) (bounded_of d).form in
    others agrees d c.do_agree.result c.do_agree.ensures c.args.first c.coefficient_of.result _ _ c.ranges.first (record { sfits = c.coefficient_of.type_inv }) c.requires.first_value c.coefficient_of.ensures refl
    ∙ left_out (agrees d.z) (agrees d.y) (agrees d.x) (known agrees d c.if-d.true)

pub returns : goal.returns
unfolding agree_at
returns c =
    let d = c.args.d in
    let agrees : ℕ → Bool = agree (written (constraint_at c.args.file.now c.args.at) c.args.count) (bounded_of d).form in
    ap₂ ◌&&◌ c.do_agree-2.ensures
    (others agrees d c.do_agree.result c.do_agree.ensures c.args.first c.coefficient_of.result _ _ c.ranges.first (record { sfits = c.coefficient_of.type_inv }) c.requires.first_value c.coefficient_of.ensures refl)
    ∙ in_a_row (agrees d.z) (agrees d.y) (agrees d.x)
