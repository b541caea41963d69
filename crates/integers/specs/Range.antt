-- What the contracts cite: the limits of 64 signed bits, and a whole number as the result of a checked operation.
use Rattle.std.specs.Prelude.{ℕ, ◌^◌, Bool, ◌&&◌, cond, ℤ, pos, neg_ℤ, ◌-ℤ◌, None, Option, Some}
use Rattle.std.specs.Int.Signed.{le_z}

-- −2^63
abbrev pub least : ℤ
least = neg_ℤ (pos (2 ^ 63))

-- 2^63 − 1
abbrev pub greatest : ℤ
greatest = pos (2 ^ 63) -ℤ pos 1

-- least ≤ z, and z ≤ greatest
unfoldable pub inside : ℤ → Bool
inside z = le_z least z && le_z z greatest

-- the result of a checked operation whose whole-number result is z: z itself, where 64 signed bits hold it
unfoldable pub checked_of : ℤ → Option ℤ
checked_of z = cond (inside z) (Some z) None

-- the lesser and the greater of two numbers
unfoldable pub lesser : (a b : ℤ) → ℤ
lesser a b = cond (le_z a b) a b

unfoldable pub greater : (a b : ℤ) → ℤ
greater a b = cond (le_z a b) b a

-- the number of magnitude m, below 0 where `negative`
abbrev pub signed_of : Bool → ℕ → ℤ
signed_of negative m = cond negative (neg_ℤ (pos m)) (pos m)
