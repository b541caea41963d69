-- A number as text: its decimal digits in ASCII, the highest first, with no leading zero; `0` for zero.
use Rattle.std.specs.Prelude.{◌≡◌, ℕ, zero, suc, ◌+◌, ◌-◌, ◌*◌, ◌/◌, ◌%◌, ◌≤◌, ◌<◌, cond, List, [], ◌∷◌, ◌++◌, ltb, length, get_or}

-- `0` is 48 and `9` is 57
abbrev pub digit : ℕ → ℕ
digit d = 48 + d

-- the digits of n, found in at most so many turns, each of which splits off the last digit
unfoldable pub digits_within : (turns n : ℕ) → List ℕ
digits_within zero n = []
digits_within (suc turns) n =
    cond (ltb n 10) (digit n ∷ []) (digits_within turns (n / 10) ++ (digit (n % 10) ∷ []))

-- a turn leaves a smaller number, so that n + 1 are enough
unfoldable pub decimal : ℕ → List ℕ
decimal n = digits_within (suc n) n

-- the number that digits say, after others that say `so_far`
unfoldable pub value_from : (so_far : ℕ) → List ℕ → ℕ
value_from so_far [] = so_far
value_from so_far (d ∷ ds) = value_from (so_far * 10 + (d - 48)) ds

-- What is right of a number's text; proofs/Digits.antt shows it of `decimal n`, for every n.
pub record Spells (text : List ℕ) (n : ℕ) : Type 0 where
  pub some : 0 < length text
  pub digits : (i : ℕ) → i < length text → (48 ≤ get_or text i 0) × (get_or text i 0 ≤ 57)
  pub value : value_from 0 text ≡ n
  pub no_leading_zero : get_or text 0 0 ≡ 48 → length text ≡ 1
