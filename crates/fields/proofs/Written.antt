-- A written field is read as the number that was written.
-- Assumes nothing.
use mathlib.Core.Path.{◌≡◌, ◌∙◌, ap}
use mathlib.Core.List.{List, ◌++◌}
use Prim.Native.Nat.{ℕ, ◌/◌, ◌%◌, ◌<◌, ◌^◌}
use native.Mathlib.Nat.{add_comm, div-add-mod'}
use native.Mathlib.Omega.{arith}
use lib.IntN.{ℤ, pos, negsuc}
use lib.Signed.{mag}
use Rattle.fields.specs.Fields.{u16_at, u32_at, i32_at, twos_complement}
use Rattle.fields.specs.Written.{u16_bytes, u32_bytes, word_of, i32_bytes}
use Rattle.fields.proofs.TwosComplement.{low, high}

module _ (rest : List ℕ) where
  pub u16_back : (x : ℕ) → u16_at (u16_bytes x ++ rest) 0 ≡ x
  u16_back x = add_comm (x % 2 ^ 8) _ ∙ div-add-mod' x (2 ^ 8)

  pub u32_back : (x : ℕ) → u32_at (u32_bytes x ++ rest) 0 ≡ x
  u32_back x = omega (arith, u16_back (x % 2 ^ 16), u16_back (x / 2 ^ 16), div-add-mod' x (2 ^ 16))

  -- K of 32 bits: `mag` is n of n and of −n − 1
  pub i32_back : (z : ℤ) → mag z < 2 ^ 31 → i32_at (i32_bytes z ++ rest) 0 ≡ z
  i32_back z l = ap (twos_complement (2 ^ 31)) (u32_back (word_of (2 ^ 31) z)) ∙ word_back (2 ^ 31) z l
    where
      word_back : (half : ℕ) (z : ℤ) → mag z < half → twos_complement half (word_of half z) ≡ z
      word_back half (pos n) l = low half n l
      word_back half (negsuc n) l = high half _ n (omega arith) l
