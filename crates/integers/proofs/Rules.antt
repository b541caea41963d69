-- Integers for `omega` where they stand: an integer z is `up z ⊖ down z`, and std's `ints` reads and shows the orders and tests of
-- integers by these halves. The halves of a sum and a difference are listed with their arguments.
use mathlib.Core.Path.{◌≡◌, refl}
use Prim.Native.Nat.{ℕ, ◌+◌, ◌≤◌}
use native.Mathlib.Omega.{arith}
use lib.IntN.{ℤ, pos, negsuc, neg_ℤ, nat_abs, ◌+ℤ◌, ◌-ℤ◌}
pub use borrow.Author.Differences.{up, down}
use Rattle.std.proofs.lemmas.Int.{ints}
use Rattle.integers.proofs.Diff.{◌⊖◌, pos_diff, negsuc_diff}

pub halves : (z : ℤ) → z ≡ up z ⊖ down z
halves (pos n) = pos_diff n
halves (negsuc n) = negsuc_diff n

-- ---- the halves of the operations

-- z is p − q, by its halves
abbrev pub Is : ℤ → ℕ → ℕ → Type 0
Is z p q = up z + q ≡ p + down z

pub +ℤ-halves : (a b : ℤ) → Is (a +ℤ b) (up a + up b) (down a + down b)
+ℤ-halves a b = omega (arith, ints)

pub negℤ_halves : (a : ℤ) → Is (neg_ℤ a) (down a) (up a)
negℤ_halves a = omega (arith, ints)

pub -ℤ-halves : (a b : ℤ) → Is (a -ℤ b) (up a + down b) (down a + up b)
-ℤ-halves a b = omega (arith, ints)

pub abs_halves : (z : ℤ) → nat_abs z ≡ up z + down z
abs_halves (pos n) = omega arith
abs_halves (negsuc n) = omega arith

pub no_dn : (z : ℤ) → down z ≤ up z → down z ≡ 0
no_dn (pos n) h = refl
no_dn (negsuc n) h = omega arith

pub no_up : (z : ℤ) → up z ≤ down z → up z ≡ 0
no_up (pos n) h = omega arith
no_up (negsuc n) h = refl
