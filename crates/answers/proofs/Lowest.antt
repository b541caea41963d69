-- What the search for the lowest at fault finds, over any test. A loop's proof cites `none` and `found`, later
-- reasoning `all` and `first`.
-- Assumes nothing.
use mathlib.Core.Path.{◌≡◌, refl, subst}
use mathlib.Core.Logic.{⊎_elim}
use mathlib.Core.Bool.{Bool, true, false}
use Prim.Native.Nat.{ℕ, zero, suc, ◌<◌}
use native.Mathlib.Nat.{not-suc-le-zero, eq-or-lt_of_le, le_of_suc-le-suc, lt-suc_self}
use native.Mathlib.Omega.{arith}
use borrow.Author.Count.{below_more}
use Rattle.answers.specs.Checks.{lowest, or_else, Lowest}
use Rattle.std.specs.Prelude.{None, Option, Some}

-- what an outcome of the search says
abbrev Means : (ℕ → Bool) → ℕ → Option ℕ → Type 0
Means ok n (Some i) = Lowest ok n i
Means ok n None = (k : ℕ) → k < n → ok k ≡ true

module _ (ok : ℕ → Bool) where
  pub none : (n : ℕ) → ((k : ℕ) → k < n → ok k ≡ true) → lowest ok n ≡ None
  unfolding lowest
  none zero h = refl
  none (suc n) h = rw (none n (λ k l. h k (omega arith)), h n (omega arith))

  pub found : (n i : ℕ) → i < n → ((k : ℕ) → k < i → ok k ≡ true) → ok i ≡ false → lowest ok n ≡ Some i
  unfolding lowest
  found zero i l h e = absurd (not-suc-le-zero l)
  found (suc n) i l h e =
      ⊎_elim (λ (p : i ≡ n). rw (none n (subst (λ (m : ℕ). (k : ℕ) → k < m → ok k ≡ true) p h), ← p, e))
      (λ (m : i < n). rw (found n i m h e))
      (eq-or-lt_of_le (le_of_suc-le-suc l))

  step : (n : ℕ) (f : Option ℕ) (b : Bool) → ok n ≡ b → Means ok n f → Means ok (suc n) (or_else f b n)
  step n (Some i) b e m = record { below = omega (arith, m.below); fails = m.fails; before = m.before }
  step n None true e m = λ k l. below_more (λ (j : ℕ). ok j ≡ true) n m e k (omega arith)
  step n None false e m = record { below = omega arith; fails = e; before = m }

  means : (n : ℕ) → Means ok n (lowest ok n)
  unfolding lowest
  means zero = λ k l. absurd (not-suc-le-zero l)
  means (suc n) = step n (lowest ok n) (ok n) refl (means n)

  pub all : (n : ℕ) → lowest ok n ≡ None → (k : ℕ) → k < n → ok k ≡ true
  all n e = subst (Means ok n) e (means n)

  pub first : (n i : ℕ) → lowest ok n ≡ Some i → Lowest ok n i
  first n i e = subst (Means ok n) e (means n)

-- tests that agree below n have the same lowest failure
pub lowest_same : (f g : ℕ → Bool) (n : ℕ) → ((k : ℕ) → k < n → f k ≡ g k) → lowest f n ≡ lowest g n
unfolding lowest
lowest_same f g zero h = refl
lowest_same f g (suc n) h = rw (lowest_same f g n (λ k l. h k (omega arith)), h n (lt-suc_self n))
