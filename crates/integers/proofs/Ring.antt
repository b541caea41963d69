-- The ring laws of the integers: the kit's, passed on, and those that it lacks. std's `ints` does not multiply out a product
-- of a product or of a sum, so those three are by differences.
use mathlib.Core.Path.{◌≡◌}
use native.Mathlib.Omega.{arith}
use lib.IntN.{ℤ, pos, neg_ℤ, ◌+ℤ◌, ◌*ℤ◌}
pub use lib.IntN.{+ℤ_idl, +ℤ_idr, +ℤ_invl, +ℤ_invr, +ℤ_comm, +ℤ_assoc, neg_ℤ-neg_ℤ, neg_ℤ-+ℤ, +ℤ-neg_ℤ_cancel, -ℤ-+ℤ_cancel, *ℤ_comm, zero-*ℤ, *ℤ-zero}
use Rattle.std.proofs.lemmas.Int.{ints}
use Rattle.integers.proofs.Diff.{zify, by_diff3}

pub *ℤ-idl : (a : ℤ) → pos 1 *ℤ a ≡ a
*ℤ-idl a = omega (arith, ints)

pub *ℤ-idr : (a : ℤ) → a *ℤ pos 1 ≡ a
*ℤ-idr a = omega (arith, ints)

pub *ℤ-assoc : (a b c : ℤ) → (a *ℤ b) *ℤ c ≡ a *ℤ (b *ℤ c)
*ℤ-assoc = by_diff3 _ (λ p q r s t u. simp zify (omega arith))

pub *ℤ-distl : (a b c : ℤ) → a *ℤ (b +ℤ c) ≡ a *ℤ b +ℤ a *ℤ c
*ℤ-distl = by_diff3 _ (λ p q r s t u. simp zify (omega arith))

pub *ℤ-distr : (a b c : ℤ) → (a +ℤ b) *ℤ c ≡ a *ℤ c +ℤ b *ℤ c
*ℤ-distr = by_diff3 _ (λ p q r s t u. simp zify (omega arith))

pub negℤ-*ℤ : (a b : ℤ) → neg_ℤ a *ℤ b ≡ neg_ℤ (a *ℤ b)
negℤ-*ℤ a b = grind (arith, ints)

pub *ℤ-negℤ : (a b : ℤ) → a *ℤ neg_ℤ b ≡ neg_ℤ (a *ℤ b)
*ℤ-negℤ a b = grind (arith, ints)
