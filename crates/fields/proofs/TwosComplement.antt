-- A machine's signed word is the two's complement of its bits, at every width.
-- Assumes nothing.
use mathlib.Core.Path.{◌≡◌, refl, sym, ◌∙◌, ap, subst}
use mathlib.Core.Bool.{Bool, true, false}
use Prim.Native.Nat.{ℕ, zero, suc, ◌+◌, ◌-◌, ◌<◌, ◌^◌}
use native.Mathlib.Nat.{zero-add, add-suc}
use native.Mathlib.Omega.{arith}
use borrow.Author.Tests.{lt-ltb, le-ltb, ltb-true, ltb-false}
use lib.Dec.{ltb}
use lib.IntN.{pos, negsuc, ◌-ℤ◌}
use mir.Syntax.{Width, w32, w64}
use mir.Val.{bits, hbits, SFits, to_z, of_z}
use mir.ValLaws.{to_z_pos, to_z-neg, to_z-of_z}
use Rattle.fields.specs.Fields.{twos_complement, i32_of, i64_of}

pub low : (half n : ℕ) → n < half → twos_complement half n ≡ pos n
unfolding twos_complement
low half n l = rw (lt-ltb _ _ l)

-- n is m + 1 below the whole range
pub high : (half n m : ℕ) → n + suc m ≡ half + half → m < half → twos_complement half n ≡ negsuc m
unfolding twos_complement
high half n m e l =
    rw (le-ltb n half (omega arith), sym e, add-suc n m, lt-ltb n (suc (n + m)) (omega arith))
    (ap negsuc (omega arith))

minus_one : (m : ℕ) → negsuc 0 -ℤ pos m ≡ negsuc m
minus_one zero = refl
minus_one (suc m) = ap (λ (k : ℕ). negsuc (suc k)) (zero-add m)

module _ (w : Width) where
  pub low_word : (n : ℕ) → n < 2 ^ hbits w → to_z w n ≡ twos_complement (2 ^ hbits w) n
  low_word n l = to_z_pos w n l ∙ sym (low (2 ^ hbits w) n l)

  below_zero : (m : ℕ) → m < 2 ^ hbits w → negsuc 0 -ℤ to_z w m ≡ negsuc m
  below_zero m l = rw (to_z_pos w m l) (minus_one m)

  pub high_fits : (m : ℕ) → m < 2 ^ hbits w → SFits w (negsuc 0 -ℤ to_z w m)
  high_fits m l = subst (SFits w) (sym (below_zero m l)) (record { sfits = l })

  pub high_word : (n m : ℕ) → n + suc m ≡ 2 ^ hbits w + 2 ^ hbits w → m < 2 ^ hbits w → to_z w (of_z w (negsuc 0 -ℤ to_z w m)) ≡ twos_complement (2 ^ hbits w) n
  high_word n m e l = to_z-of_z w _ (high_fits m l) ∙ below_zero m l ∙ sym (high (2 ^ hbits w) n m e l)

module _ (w : Width) (two : 2 ^ bits w ≡ 2 ^ hbits w + 2 ^ hbits w) where
  pub signed_word : (n : ℕ) → n < 2 ^ bits w → to_z w n ≡ twos_complement (2 ^ hbits w) n
  signed_word n fits = go (ltb n (2 ^ hbits w)) refl
    where
      go : (t : Bool) → ltb n (2 ^ hbits w) ≡ t → to_z w n ≡ twos_complement (2 ^ hbits w) n
      go true e = low_word w n (ltb-true _ _ e)
      go false e =
          let l = ltb-false n (2 ^ hbits w) e in
          let m : ℕ = 2 ^ bits w - suc n in
          let few : m < 2 ^ hbits w = omega (arith, two, l) in
          let n_is : n ≡ 2 ^ bits w - suc m = omega (arith, fits) in
          ap (to_z w) n_is ∙ to_z-neg w m few ∙ sym (high (2 ^ hbits w) n m (omega (arith, two, fits)) few)

pub i32_word : (n : ℕ) → n < 2 ^ 32 → to_z w32 n ≡ i32_of n
i32_word = signed_word w32 refl

pub i64_word : (n : ℕ) → n < 2 ^ 64 → to_z w64 n ≡ i64_of n
i64_word = signed_word w64 refl
