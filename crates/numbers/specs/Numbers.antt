-- Numbers in a row: 8 bytes each, little-endian, two's complement where signed.
use Rattle.std.specs.Prelude.{ℕ, zero, suc, ◌*◌, ◌/◌, cond, List, [], ◌∷◌, ltb, ℤ, pos, length}
use Rattle.fields.specs.Fields.{u64_at, i64_at}

-- number i of the bytes; 0 where they have none
unfoldable pub number_at : List ℕ → (i : ℕ) → ℤ
number_at bytes i = cond (ltb i (length bytes / 8)) (i64_at bytes (8 * i)) (pos 0)

-- the same unsigned
unfoldable pub unsigned_at : List ℕ → (i : ℕ) → ℕ
unsigned_at bytes i = cond (ltb i (length bytes / 8)) (u64_at bytes (8 * i)) 0

-- n numbers from number i on
unfoldable pub numbers_from : List ℕ → (i n : ℕ) → List ℤ
numbers_from bytes i zero = []
numbers_from bytes i (suc n) = number_at bytes i ∷ numbers_from bytes (suc i) n
