-- A product by its factors' signs and magnitudes.
use mathlib.Core.Path.{◌≡◌, refl, ap, ◌∙◌}
use mathlib.Core.Bool.{not, beq}
use Prim.Native.Nat.{ℕ, ◌*◌, ◌/◌, ◌^◌, ◌<◌, ◌≤◌, zero-le}
use native.Mathlib.Nat.{le-div_iff_mul-le, div-lt_iff_lt-mul}
use native.Mathlib.Omega.{arith}
use borrow.Author.Tests.{le-ltb}
use lib.IntN.{ℤ, pos, negsuc, nat_abs, ◌*ℤ◌, zero-*ℤ}
use lib.Signed.{lt_z, nat_abs-le}
use mir.Syntax.{Width}
use mir.Val.{SFits, hbits}
use Rattle.integers.specs.Range.{signed_of}
use Rattle.integers.proofs.Abs.{abs-*ℤ}

-- below 0 where the two signs differ
pub product_sign : (k a : ℤ) → signed_of (not (beq (lt_z k (pos 0)) (lt_z a (pos 0)))) (nat_abs k * nat_abs a) ≡ k *ℤ a
product_sign (pos k) (pos a) = simp (le-ltb k 0 zero-le, le-ltb a 0 zero-le)
product_sign (pos k) (negsuc a) = simp (le-ltb k 0 zero-le)
product_sign (negsuc k) (pos a) = simp (le-ltb a 0 zero-le)
product_sign (negsuc k) (negsuc a) = refl

pub product_zero : (k a : ℤ) → nat_abs k ≡ 0 → k *ℤ a ≡ pos 0
product_zero (pos n) a e = ap (λ (m : ℕ). pos m *ℤ a) e ∙ zero-*ℤ a
product_zero (negsuc n) a e = absurd (omega arith)

-- the quotient of a limit l by one magnitude says whether the product of the two is at most l, or past it
pub product_within : {l m n : ℕ} → 0 < m → n ≤ l / m → m * n ≤ l
product_within {l} {m} {n} p h = omega (arith, (le-div_iff_mul-le {x = n} p).0 h)

pub product_past : (w : Width) (k a : ℤ) {l : ℕ} → 2 ^ hbits w ≤ l → 0 < nat_abs k → l / nat_abs k < nat_abs a → ¬ (SFits w (k *ℤ a))
product_past w k a b p h f = omega (arith, (div-lt_iff_lt-mul {y = nat_abs a} p).0 h, abs-*ℤ k a, nat_abs-le (k *ℤ a) f.sfits)
