-- "file fields are little-endian, and two's complement where signed": each field as a number, over the file's byte list.
use Rattle.std.specs.Prelude.{ℕ, ◌+◌, ◌*◌, ◌^◌, List, Bool, cond, ltb, eqb, ℤ, pos, ◌-ℤ◌, get_or}
use Rattle.answers.specs.Checks.{every}

-- the byte at an offset; 0 past the end, where no caller reads
abbrev pub byte_at : List ℕ → ℕ → ℕ
byte_at s at = get_or s at 0

-- a field from two of half its width, the low one first
abbrev pub u16_of : (low high : ℕ) → ℕ
u16_of low high = low + high * 2 ^ 8

abbrev pub u32_of : (low high : ℕ) → ℕ
u32_of low high = low + high * 2 ^ 16

abbrev pub u64_of : (low high : ℕ) → ℕ
u64_of low high = low + high * 2 ^ 32

abbrev pub u16_at : List ℕ → ℕ → ℕ
u16_at s at = u16_of (byte_at s at) (byte_at s (at + 1))

abbrev pub u32_at : List ℕ → ℕ → ℕ
u32_at s at = u32_of (u16_at s at) (u16_at s (at + 2))

abbrev pub u64_at : List ℕ → ℕ → ℕ
u64_at s at = u64_of (u32_at s at) (u32_at s (at + 4))

-- two's complement: a word from half its range on stands for the word less the whole range
unfoldable pub twos_complement : (half : ℕ) → ℕ → ℤ
twos_complement half word = cond (ltb word half) (pos word) (pos word -ℤ pos (half + half))

abbrev pub i32_of : (word : ℕ) → ℤ
i32_of = twos_complement (2 ^ 31)

abbrev pub i64_of : (word : ℕ) → ℤ
i64_of = twos_complement (2 ^ 63)

abbrev pub i32_at : List ℕ → ℕ → ℤ
i32_at s at = i32_of (u32_at s at)

abbrev pub i64_at : List ℕ → ℕ → ℤ
i64_at s at = i64_of (u64_at s at)

-- the count bytes from an offset on are zero
abbrev pub zeros_at : List ℕ → (at count : ℕ) → Bool
zeros_at s at = every (λ i. eqb (byte_at s (at + i)) 0)
