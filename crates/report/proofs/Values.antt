-- The text of values, and whether a slice is kept, value by value.
-- Assumes nothing.
use mathlib.Core.Path.{◌≡◌, refl, sym, ◌∙◌, ap, subst}
use mathlib.Core.List.{List, [], ◌∷◌, ◌++◌, append_assoc, append-nil}
use native.Mathlib.Nat.{le_of_suc-le-suc}
use Prim.Native.Nat.{ℕ, zero, suc, ◌+◌, ◌≤◌, ◌<◌, min}
use native.Mathlib.Numerals.{add-one}
use native.Mathlib.Omega.{arith}
use lib.IntN.{ℤ, pos, negsuc}
use lib.Dec.{eqb}
use mathlib.Core.Bool.{Bool, true, false, cond, ◌&&◌}
use mir.Syntax.{w64}
use mir.Val.{of_z, to_z, SFits}
use mir.ValLaws.{to_z-of_z}
use borrow.Author.Tests.{eqb-true}
use lib.ListN.{length, get_or, take, drop}
use lib.Seq.{take-suc, drop-cons}
use Rattle.std.specs.List.{list_all}
use Rattle.std.proofs.lemmas.List.{take_min}
use Rattle.report.specs.Call.{signed_text, values_text, is_seven, is_kept}

text_append : (a b : List ℤ) → values_text (a ++ b) ≡ values_text a ++ values_text b
unfolding values_text
text_append [] b = refl
text_append (x ∷ a) b = ap (λ (t : List ℕ). signed_text x ++ t) (text_append a b) ∙ sym (append_assoc (signed_text x) (values_text a) (values_text b))

text_one : (x : ℤ) → values_text (x ∷ []) ≡ signed_text x
unfolding values_text
text_one x = append-nil (signed_text x)

-- one value more of a text
pub text_more : (values : List ℤ) (i : ℕ) → i < length values
    → values_text (take i values) ++ signed_text (get_or values i (pos 0)) ≡ values_text (take (i + 1) values)
text_more values i h =
    sym (rw (add-one, take-suc values i (pos 0) h) (text_append (take i values) (get_or values i (pos 0) ∷ []) ∙ ap (λ (t : List ℕ). values_text (take i values) ++ t) (text_one _)))

pub seven : (x : ℤ) → SFits w64 x → of_z w64 x ≡ 7 → is_seven x ≡ true
seven x f h = let e : x ≡ pos 7 = sym (to_z-of_z w64 x f) ∙ ap (to_z w64) h in rw e

not_by : (n : ℕ) (b : Bool) → eqb n 7 ≡ b → (of_z w64 (pos n) ≡ 7 → ⊥) → eqb n 7 ≡ false
not_by n true e other = absurd (other (ap (λ (k : ℕ). of_z w64 (pos k)) (eqb-true n 7 e)))
not_by n false e other = e

pub not_seven : (x : ℤ) → (of_z w64 x ≡ 7 → ⊥) → is_seven x ≡ false
not_seven (pos n) other = not_by n (eqb n 7) refl other
not_seven (negsuc n) other = refl

both : (x y : Bool) → (x && y) ≡ cond x y false
both true y = refl
both false y = refl

-- a slice is kept where each value is seven
pub kept_is : (slice : List ℤ) → list_all is_seven slice ≡ is_kept slice
unfolding is_kept
kept_is [] = refl
kept_is (x ∷ slice) = rw (kept_is slice) (both (is_seven x) (is_kept slice))

pub kept_end_is : (slice : List ℤ) (i : ℕ) → length slice ≤ i → true ≡ is_kept (drop i slice)
unfolding is_kept
kept_end_is [] zero h = refl
kept_end_is [] (suc i) h = refl
kept_end_is (x ∷ slice) zero h = absurd (omega arith)
kept_end_is (x ∷ slice) (suc i) h = kept_end_is slice i (le_of_suc-le-suc h)

-- whether a slice is kept is told by its first value and those after it
module _ (slice : List ℤ) (i : ℕ) (h : i < length slice) where
  pub kept_more : is_seven (get_or slice i (pos 0)) ≡ true → is_kept (drop (i + 1) slice) ≡ is_kept (drop i slice)
  unfolding is_kept
  kept_more e = sym (rw (add-one, drop-cons slice i (pos 0) h, e))

  pub kept_not : is_seven (get_or slice i (pos 0)) ≡ false → false ≡ is_kept (drop i slice)
  unfolding is_kept
  kept_not e = rw (drop-cons slice i (pos 0) h, e)

-- at most all 65 values
pub first : (room : ℕ) (slice : List ℤ) {n : ℕ} → length slice ≡ 65 → n ≡ min room 65 → take n slice ≡ take room slice
first room slice l e = rw e (subst (λ (k : ℕ). take (min room k) slice ≡ take room slice) l (take_min room slice))
