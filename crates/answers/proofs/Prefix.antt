-- A list that is set from the front on: the entries so far are a function's values, the others one value.
-- Assumes nothing.
use mathlib.Core.Path.{◌≡◌, refl, ◌∙◌}
use mathlib.Core.Bool.{Bool, true, false, cond}
use mathlib.Core.List.{List}
use Prim.Native.Nat.{ℕ, zero, suc, ◌+◌, ◌<◌}
use native.Mathlib.Decide.{ℕ_discrete}
use native.Mathlib.Omega.{arith}
use borrow.Author.Tests.{lt-ltb, le-ltb, ltb-true, ltb-false}
use lib.Dec.{ltb}
use lib.ListN.{length, get_or, set, replicate}
use lib.Seq.{get_or-set_same, get_or-set_other}

module _ {A : Type 0} (f : ℕ → A) (d : A) where
  -- the first n are f's
  abbrev pub below : (n x : ℕ) → A
  below n x = cond (ltb x n) (f x) d

  all_one : (k x : ℕ) → get_or (replicate k d) x d ≡ d
  all_one zero x = refl
  all_one (suc k) zero = refl
  all_one (suc k) (suc x) = all_one k x

  pub none_set : (k x : ℕ) → get_or (replicate k d) x d ≡ below 0 x
  none_set k x = all_one k x ∙ rw (le-ltb x 0 (omega arith))

  pub one_more_set : (l : List A) (i : ℕ) (v : A) → i < length l → v ≡ f i → ((x : ℕ) → get_or l x d ≡ below i x) → (x : ℕ) → get_or (set l i v) x d ≡ below (i + 1) x
  one_more_set l i v h e all x = elim (ℕ_discrete x i) [ yes p ↦ here p | no q ↦ other q ]
    where
      here : x ≡ i → get_or (set l i v) x d ≡ below (i + 1) x
      here p = rw (p, get_or-set_same l i v d h, lt-ltb i (i + 1) (omega arith)) e

      -- another entry stays, and it is below i + 1 where it is below i
      as_before : (x ≡ i → ⊥) → (b : Bool) → ltb x i ≡ b → ltb x (i + 1) ≡ b
      as_before q true t = lt-ltb x (i + 1) (omega (arith, ltb-true x i t))
      as_before q false t = le-ltb x (i + 1) (omega (arith, ltb-false x i t, q))

      other : (x ≡ i → ⊥) → get_or (set l i v) x d ≡ below (i + 1) x
      other q = get_or-set_other l i x v d q ∙ all x ∙ rw (as_before q (ltb x i) refl)
