-- 0 and 1 as true and false, and the tests of types and of equal numbers.
-- Assumes nothing.
use mathlib.Core.Path.{◌≡◌, refl, sym, ◌∙◌, ap}
use mathlib.Core.Logic.{◌↔◌, ◌⊎◌, inl, inr}
use mathlib.Core.Bool.{Bool, true, false}
use Prim.Native.Nat.{zero, suc}
use native.Mathlib.Omega.{arith}
use lib.Dec.{eqb, leb→le}
use lib.IntN.{ℤ, pos, negsuc}
use lib.Signed.{le_z, le_z_yes}
use Rattle.integers.proofs.Order.{le_z_true, ≤ℤ-antisym, ≤ℤ_refl}
use mir.Syntax.{w64}
use mir.Val.{SFits, of_z, to_z}
use mir.Facts.{to_z-of_z}
use borrow.Author.Tests.{eqb-true, eq-eqb}
use Rattle.answers.proofs.Tests.{both_true, same_test}
use Rattle.node.specs.declared.equation.StreamType.{StreamType}
use Rattle.node.specs.declared.equation.StreamType.TheVariants.{Bool as BoolType, Int as IntType}
use Rattle.streams.specs.Typing.{Fits, fits_test}
use Rattle.streams.specs.Values.{number, equals, truth}

pub equals_true : (a b : ℤ) → (equals a b ≡ true) ↔ (a ≡ b)
unfolding equals
equals_true a b = (
  λ e. let t = both_true (le_z a b) (le_z b a) e in ≤ℤ-antisym a b ((le_z_true a b).0 t.0) ((le_z_true b a).0 t.1),
  λ e. rw (e, (le_z_true b b).1 (≤ℤ_refl b)),
)

-- the machine's test of equal numbers is that of the contracts
pub equals_is : (a b : ℤ) → SFits w64 a → SFits w64 b → eqb (of_z w64 a) (of_z w64 b) ≡ equals a b
equals_is a b f g =
    same_test (eqb (of_z w64 a) (of_z w64 b)) (equals a b)
    (λ e. (equals_true a b).1 (sym (to_z-of_z f) ∙ ap (to_z w64) (eqb-true _ _ e) ∙ to_z-of_z g))
    (λ e. eq-eqb _ _ (ap (of_z w64) ((equals_true a b).0 e)))

pub truth_number : (b : Bool) → truth (number b) ≡ b
unfolding truth equals
truth_number true = refl
truth_number false = refl

pub number_fits : (b : Bool) → Fits BoolType (number b)
number_fits true = (le_z_yes tt, le_z_yes tt)
number_fits false = (le_z_yes tt, le_z_yes tt)

pub zero_or_one : (z : ℤ) → Fits BoolType z → (z ≡ pos 0) ⊎ (z ≡ pos 1)
zero_or_one (pos zero) f = inl refl
zero_or_one (pos (suc zero)) f = inr refl
zero_or_one (pos (suc (suc n))) f = absurd (omega (arith, leb→le (suc (suc n)) 1 f.1.le))
zero_or_one (negsuc n) f = absurd f.0.le

pub fits_test_is : (k : StreamType) (z : ℤ) → (fits_test k z ≡ true) ↔ Fits k z
fits_test_is BoolType z = (
  λ e. let t = both_true (le_z (pos 0) z) (le_z z (pos 1)) e in ((le_z_true (pos 0) z).0 t.0, (le_z_true z (pos 1)).0 t.1),
  λ f. rw ((le_z_true (pos 0) z).1 f.0, (le_z_true z (pos 1)).1 f.1),
)
fits_test_is IntType z = (λ e. tt, λ f. refl)

-- a value of type bool is known by its truth
pub number_truth : (z : ℤ) → Fits BoolType z → number (truth z) ≡ z
number_truth z f = go (zero_or_one z f)
  where
    go : (z ≡ pos 0) ⊎ (z ≡ pos 1) → number (truth z) ≡ z
    go (inl e) = rw (e, truth_number false)
    go (inr e) = rw (e, truth_number true)
