-- Lists that are filled up.
-- Assumes nothing.
use mathlib.Core.Path.{◌≡◌, refl, sym, ◌∙◌}
use mathlib.Core.List.{List, [], ◌∷◌, ◌++◌}
use Prim.Native.Nat.{ℕ, zero, suc, ◌-◌, ◌≤◌}
use native.Mathlib.Omega.{arith}
use lib.ListN.{length, get_or, replicate, length-append, length-replicate}
use lib.Seq.{ext_get_or}
use Rattle.streams.specs.Instant.{filled}

module _ {A : Type 0} where
  pub same_everywhere : (n i : ℕ) (z : A) → get_or (replicate n z) i z ≡ z
  same_everywhere zero i z = refl
  same_everywhere (suc n) zero z = refl
  same_everywhere (suc n) (suc i) z = same_everywhere n i z

  -- what fills a list up is what stands for a missing entry
  filled_at : (n : ℕ) (l : List A) (i : ℕ) (z : A) → get_or (l ++ replicate n z) i z ≡ get_or l i z
  filled_at n [] i z = same_everywhere n i z
  filled_at n (x ∷ l) zero z = refl
  filled_at n (x ∷ l) (suc i) z = filled_at n l i z

  -- so a list of n entries that are those of l is l, filled up
  pub is_filled : (n : ℕ) (z : A) (l entries : List A) → length entries ≡ n → length l ≤ n → ((i : ℕ) → get_or entries i z ≡ get_or l i z) → entries ≡ filled n z l
  is_filled n z l entries e h same =
      ext_get_or z entries (filled n z l)
      (e ∙ sym (length-append l (replicate (n - length l) z) ∙ omega (arith, length-replicate (n - length l) z)))
      (λ i b. same i ∙ sym (filled_at (n - length l) l i z))
