-- Ends, a constant of 32 bits, widened, and its products with ends: 64 bits hold them.
-- Assumes nothing.
use mathlib.Core.Path.{◌≡◌, sym, ◌∙◌, ap, ap₂, subst}
use Prim.Native.Nat.{◌≤◌}
use native.Mathlib.Omega.{arith}
use lib.IntN.{ℤ, nat_abs, ◌*ℤ◌}
use lib.Signed.{nat_abs-le}
use mir.Syntax.{w32, w64}
use mir.Val.{SFits}
use mir.Facts.{to_z-of_z, sfits_widen}
use Rattle.integers.proofs.Abs.{abs_fits}
use Rattle.integers.proofs.Reading.{rd}
use Rattle.integers.proofs.Small.{small_product_fits, small_product}
use Rattle.ranges.specs.Table.{range}

pub same_ends : {l l' g g' : ℤ} → l ≡ l' → g ≡ g' → range l g ≡ range l' g'
same_ends p q = ap₂ range p q

-- a word of 32 bits in 64
module _ (k : ℤ) (f : SFits w32 k) where
  pub wide_fits : SFits w64 (rd w32 k)
  wide_fits = subst (SFits w64) (sym (to_z-of_z f)) (sfits_widen tt f)

  wide_small : nat_abs (rd w32 k) ≤ 2147483648
  wide_small = subst (λ (z : ℤ). nat_abs z ≤ 2147483648) (sym (to_z-of_z f)) (nat_abs-le k f.sfits)

end_fits : (z : ℤ) → nat_abs z ≤ 4000000000 → SFits w64 z
end_fits z h = abs_fits w64 z (omega arith)

module _ {x k : ℤ} (f : SFits w32 k) (same : x ≡ rd w32 k) where
  pub widened : rd w64 x ≡ k
  widened = rw same (to_z-of_z (wide_fits k f) ∙ to_z-of_z f)

  -- times an end
  pub multiple_fits : (z : ℤ) → nat_abs z ≤ 4000000000 → SFits w64 (rd w64 x *ℤ rd w64 z)
  multiple_fits z h = rw same (small_product_fits (wide_fits k f) (end_fits z h) (wide_small k f) h (omega arith))

  pub multiple_is : (z : ℤ) → nat_abs z ≤ 4000000000 → rd w64 (rd w64 x *ℤ rd w64 z) ≡ k *ℤ z
  multiple_is z h =
      rw same
      (small_product (wide_fits k f) (end_fits z h) (wide_small k f) h (omega arith) ∙ ap (λ (y : ℤ). y *ℤ z) (to_z-of_z f))
