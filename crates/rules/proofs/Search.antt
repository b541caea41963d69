-- A search among the first n numbers: some number passes a test, or each fails it.
-- Assumes nothing.
use mathlib.Core.Path.{◌≡◌, refl}
use mathlib.Core.Logic.{◌⊎◌, inl, inr, ⊎_elim}
use mathlib.Core.Bool.{Bool, true, false}
use Prim.Native.Nat.{ℕ, zero, suc, ◌<◌}
use native.Mathlib.Nat.{not-suc-le-zero, eq-or-lt_of_le, le_of_suc-le-suc, le_refl}
use native.Mathlib.Omega.{arith}

pub record Passing (ok : ℕ → Bool) (n : ℕ) : Type 0 where
  pub at : ℕ
  pub below : at < n
  pub passes : ok at ≡ true

abbrev pub AllFail : (ℕ → Bool) → (n : ℕ) → Type 0
AllFail ok n = (j : ℕ) → j < n → ok j ≡ false

module _ (ok : ℕ → Bool) where
  one_more : (n : ℕ) → AllFail ok n → ok n ≡ false → AllFail ok (suc n)
  one_more n fail e j l =
      ⊎_elim (λ (p : j ≡ n). rw p e) (λ (m : j < n). fail j m) (eq-or-lt_of_le (le_of_suc-le-suc l))

  pub searched : (n : ℕ) → Passing ok n ⊎ AllFail ok n
  searched zero = inr (λ j l. absurd (not-suc-le-zero l))
  searched (suc n) = go (ok n) refl (searched n)
    where
      go : (b : Bool) → ok n ≡ b → Passing ok n ⊎ AllFail ok n → Passing ok (suc n) ⊎ AllFail ok (suc n)
      go true e before = inl (record { at = n; below = le_refl (suc n); passes = e })
      go false e (inl p) = inl (record { at = p.at; below = omega (arith, p.below); passes = p.passes })
      go false e (inr fail) = inr (one_more n fail e)
