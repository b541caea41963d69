-- A test of each of the first n, one more at a time. A loop's proof cites `every-none`, `every_more` and `every-not`.
-- Assumes nothing.
use mathlib.Core.Path.{◌≡◌, refl, subst}
use mathlib.Core.Logic.{⊎_elim}
use mathlib.Core.Bool.{Bool, true, false, and-false}
use Prim.Native.Nat.{ℕ, zero, suc, ◌+◌, ◌<◌}
use native.Mathlib.Nat.{not-suc-le-zero, eq-or-lt_of_le, le_of_suc-le-suc}
use native.Mathlib.Numerals.{add-one}
use native.Mathlib.Omega.{arith}
use Rattle.answers.specs.Checks.{every}
use Rattle.answers.proofs.Tests.{both_true}

module _ (ok : ℕ → Bool) where
  pub every_none : every ok 0 ≡ true
  unfolding every
  every_none = refl

  pub every_more : (n : ℕ) → every ok n ≡ true → ok n ≡ true → every ok (n + 1) ≡ true
  unfolding every
  every_more n e f = rw (add-one, e, f)

  pub every_not : (k n : ℕ) → k < n → ok k ≡ false → every ok n ≡ false
  unfolding every
  every_not k zero l f = absurd (not-suc-le-zero l)
  every_not k (suc n) l f =
      ⊎_elim (λ (e : k ≡ n). rw (subst (λ (m : ℕ). ok m ≡ false) e f) (and-false (every ok n)))
      (λ (m : k < n). rw (every_not k n m f))
      (eq-or-lt_of_le (le_of_suc-le-suc l))

  pub every_all : (n : ℕ) → every ok n ≡ true → (k : ℕ) → k < n → ok k ≡ true
  unfolding every
  every_all zero e k l = absurd (not-suc-le-zero l)
  every_all (suc n) e k l =
      let both = both_true (every ok n) (ok n) e in
      ⊎_elim (λ (p : k ≡ n). rw p both.1) (λ (m : k < n). every_all n both.0 k m) (eq-or-lt_of_le (le_of_suc-le-suc l))

  pub every_of : (n : ℕ) → ((k : ℕ) → k < n → ok k ≡ true) → every ok n ≡ true
  unfolding every
  every_of zero h = refl
  every_of (suc n) h = rw (every_of n (λ k l. h k (omega arith)), h n (omega arith))
