-- Fields as they are written: "file fields are little-endian, and two's complement where signed". Each is the bytes of a number that
-- fits it.
use Rattle.std.specs.Prelude.{ℕ, suc, ◌+◌, ◌-◌, ◌/◌, ◌%◌, ◌^◌, List, [], ◌∷◌, ◌++◌, ℤ, pos, negsuc}

abbrev pub u16_bytes : ℕ → List ℕ
u16_bytes x = x % 2 ^ 8 ∷ x / 2 ^ 8 ∷ []

abbrev pub u32_bytes : ℕ → List ℕ
u32_bytes x = u16_bytes (x % 2 ^ 16) ++ u16_bytes (x / 2 ^ 16)

-- the word that stands for a number, by two's complement: `pos n` for n, `negsuc n` for −n − 1
abbrev pub word_of : (half : ℕ) → ℤ → ℕ
word_of half (pos n) = n
word_of half (negsuc n) = half + half - suc n

abbrev pub i32_bytes : ℤ → List ℕ
i32_bytes z = u32_bytes (word_of (2 ^ 31) z)
