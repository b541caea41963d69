-- A row of numbers by its entries.
-- Assumes nothing.
use mathlib.Core.Path.{◌≡◌, refl, sym, ◌∙◌, ap}
use mathlib.Core.List.{List, ◌∷◌}
use Prim.Native.Nat.{ℕ, zero, suc, ◌+◌, ◌<◌, ◌≤◌}
use native.Mathlib.Nat.{not-suc-le-zero, le_of_suc-le-suc}
use native.Mathlib.Omega.{arith}
use lib.IntN.{ℤ, pos}
use lib.ListN.{length, get_or, take}
use lib.Seq.{ext_get_or}
use Rattle.numbers.specs.Numbers.{number_at, numbers_from}

module _ (bytes : List ℕ) where
  pub numbers_length : (i n : ℕ) → length (numbers_from bytes i n) ≡ n
  unfolding numbers_from
  numbers_length i zero = refl
  numbers_length i (suc n) = ap suc (numbers_length (suc i) n)

  numbers_entry : (i n x : ℕ) → x < n → get_or (numbers_from bytes i n) x (pos 0) ≡ number_at bytes (i + x)
  unfolding numbers_from
  numbers_entry i zero x l = absurd (not-suc-le-zero l)
  numbers_entry i (suc n) zero l = ap (number_at bytes) (omega arith)
  numbers_entry i (suc n) (suc x) l = numbers_entry (suc i) n x (le_of_suc-le-suc l) ∙ ap (number_at bytes) (omega arith)

  -- a list whose entries are the numbers is the row
  pub numbers_are : (n : ℕ) (l : List ℤ) → length l ≡ n → ((x : ℕ) → x < n → get_or l x (pos 0) ≡ number_at bytes x) → l ≡ numbers_from bytes 0 n
  numbers_are n l e each =
      ext_get_or (pos 0) l (numbers_from bytes 0 n) (e ∙ sym (numbers_length 0 n)) (λ x b. let m : x < n = omega (arith, e, b) in each x m ∙ sym (numbers_entry 0 n x m ∙ ap (number_at bytes) (omega arith)))

  -- the first of a row are a shorter one
  pub numbers_taken : (n m i : ℕ) → n ≤ m → take n (numbers_from bytes i m) ≡ numbers_from bytes i n
  unfolding numbers_from
  numbers_taken zero m i h = refl
  numbers_taken (suc n) zero i h = absurd (not-suc-le-zero h)
  numbers_taken (suc n) (suc m) i h = ap (λ (l : List ℤ). number_at bytes i ∷ l) (numbers_taken n m (suc i) (le_of_suc-le-suc h))
