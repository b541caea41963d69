-- The magnitude of an integer, `nat_abs`: of sums and products, and as a bound on both sides.
use mathlib.Core.Path.{◌≡◌}
use mathlib.Core.Logic.{◌↔◌}
use Prim.Native.Nat.{ℕ, ◌+◌, ◌*◌, ◌^◌, ◌≤◌, ◌<◌}
use native.Mathlib.Nat.{mul-le-mul}
use native.Mathlib.Omega.{arith}
use lib.IntN.{ℤ, pos, neg_ℤ, nat_abs, ◌+ℤ◌, ◌-ℤ◌, ◌*ℤ◌}
use lib.Signed.{◌≤ℤ◌}
use mir.Syntax.{Width}
use mir.Val.{SFits, hbits}
use Rattle.std.proofs.lemmas.Int.{ints, fits_signed_from_abs, unsigned_abs-mul}

pub abs-≤ : (n : ℕ) (z : ℤ) → (nat_abs z ≤ n) ↔ ((neg_ℤ (pos n) ≤ℤ z) × (z ≤ℤ pos n))
abs-≤ n z = omega (arith, ints)

pub abs_fits : (w : Width) (z : ℤ) → nat_abs z < 2 ^ hbits w → SFits w z
abs_fits = fits_signed_from_abs

pub abs_negℤ : (z : ℤ) → nat_abs (neg_ℤ z) ≡ nat_abs z
abs_negℤ z = omega (arith, ints)

-- ---- bounds of a sum and a difference

pub bound_add : (m n : ℕ) (a b : ℤ) → nat_abs a ≤ m → nat_abs b ≤ n → nat_abs (a +ℤ b) ≤ m + n
bound_add m n a b h k = omega (arith, ints)

pub bound_sub : (m n : ℕ) (a b : ℤ) → nat_abs a ≤ m → nat_abs b ≤ n → nat_abs (a -ℤ b) ≤ m + n
bound_sub m n a b h k = omega (arith, ints)

-- ---- of a product

pub abs-*ℤ : (a b : ℤ) → nat_abs (a *ℤ b) ≡ nat_abs a * nat_abs b
abs-*ℤ = unsigned_abs-mul

pub bound_mul : (m n : ℕ) (a b : ℤ) → nat_abs a ≤ m → nat_abs b ≤ n → nat_abs (a *ℤ b) ≤ m * n
bound_mul m n a b h k = rw (abs-*ℤ a b) (mul-le-mul h k)
