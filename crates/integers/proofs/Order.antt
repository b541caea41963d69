-- The order of the integers, and the two tests that compute it. `ints` is std's rules that read them as natural numbers.
use mathlib.Core.Path.{◌≡◌}
use mathlib.Core.Logic.{◌↔◌}
use mathlib.Core.Bool.{true, false}
use Prim.Native.Nat.{ℕ, suc}
use native.Mathlib.Nat.{mul-le-mul_left}
use native.Mathlib.Omega.{arith}
use lib.IntN.{ℤ, pos, negsuc, neg_ℤ, ◌+ℤ◌, ◌-ℤ◌, ◌*ℤ◌}
use lib.Signed.{le_z, lt_z, ◌≤ℤ◌, ◌<ℤ◌}
pub use lib.Signed.{≤ℤ_refl, <ℤ_irrefl, <ℤ-≤ℤ_trans}
use Rattle.std.proofs.lemmas.Int.{ints}
use Rattle.integers.proofs.Diff.{zify, by_diff2}
use Rattle.integers.proofs.Ring.{negℤ-*ℤ}

-- ---- the order itself

pub ≤ℤ-of-≡ : (a b : ℤ) → a ≡ b → a ≤ℤ b
≤ℤ-of-≡ a b e = omega (arith, ints)

pub ≤ℤ-trans : (a b c : ℤ) → a ≤ℤ b → b ≤ℤ c → a ≤ℤ c
≤ℤ-trans a b c h k = omega (arith, ints)

pub ≤ℤ-antisym : (a b : ℤ) → a ≤ℤ b → b ≤ℤ a → a ≡ b
≤ℤ-antisym a b h k = omega (arith, ints)

-- ---- not below

pub ≰-<ℤ : (a b : ℤ) → (¬ (a ≤ℤ b)) ↔ (b <ℤ a)
≰-<ℤ a b = grind (arith, ints)

pub ≰-negℤ : (v b : ℤ) → (¬ (v ≤ℤ b)) ↔ (neg_ℤ v ≤ℤ (neg_ℤ b -ℤ pos 1))
≰-negℤ v b = grind (arith, ints)

-- ---- the operations are monotone

pub +ℤ-mono : (a b c d : ℤ) → a ≤ℤ b → c ≤ℤ d → (a +ℤ c) ≤ℤ (b +ℤ d)
+ℤ-mono a b c d h k = omega (arith, ints)

pub -ℤ-mono : (a b c d : ℤ) → a ≤ℤ b → c ≤ℤ d → (a -ℤ d) ≤ℤ (b -ℤ c)
-ℤ-mono a b c d h k = omega (arith, ints)

pub negℤ_flips : (a b : ℤ) → a ≤ℤ b → neg_ℤ b ≤ℤ neg_ℤ a
negℤ_flips a b h = omega (arith, ints)

-- a factor keeps the order, and below 0 turns it round
pub *ℤ-mono : (k : ℕ) (a b : ℤ) → a ≤ℤ b → (pos k *ℤ a) ≤ℤ (pos k *ℤ b)
*ℤ-mono k = by_diff2 _ (λ p q r s. simp zify (λ h. omega (arith, mul-le-mul_left k h)))

pub *ℤ-flips : (n : ℕ) (a b : ℤ) → a ≤ℤ b → (negsuc n *ℤ b) ≤ℤ (negsuc n *ℤ a)
*ℤ-flips n a b l = rw (negℤ-*ℤ (pos (suc n)) a, negℤ-*ℤ (pos (suc n)) b) (negℤ_flips _ _ (*ℤ-mono (suc n) a b l))

-- ---- the tests

pub le_z_true : (a b : ℤ) → (le_z a b ≡ true) ↔ (a ≤ℤ b)
le_z_true a b = grind (arith, ints)

pub le_z_false : (a b : ℤ) → (le_z a b ≡ false) ↔ (b <ℤ a)
le_z_false a b = grind (arith, ints)

pub le_z_self : (a : ℤ) → le_z a a ≡ true
le_z_self a = grind (arith, ints)

pub le_z_total : (a b : ℤ) → le_z a b ≡ false → le_z b a ≡ true
le_z_total a b e = grind (arith, ints)

pub lt_z_true : (a b : ℤ) → (lt_z a b ≡ true) ↔ (a <ℤ b)
lt_z_true a b = grind (arith, ints)

pub lt_z_false : (a b : ℤ) → (lt_z a b ≡ false) ↔ (b ≤ℤ a)
lt_z_false a b = grind (arith, ints)
