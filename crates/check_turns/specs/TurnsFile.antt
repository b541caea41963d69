-- A turns file, this repository's own format: unsigned numbers in a row, first the line number of the record that the first turn takes,
-- then the quotas, one a turn. A cut-off last number is ignored; a file without a first one has line 0.
use Rattle.std.specs.Prelude.{ℕ, zero, suc, ◌-◌, ◌/◌, List, [], ◌∷◌, length}
use Rattle.numbers.specs.Numbers.{unsigned_at}

abbrev pub first_line : List ℕ → ℕ
first_line bytes = unsigned_at bytes 0

-- n quotas from number i on
unfoldable pub quotas_from : List ℕ → (i n : ℕ) → List ℕ
quotas_from bytes i zero = []
quotas_from bytes i (suc n) = unsigned_at bytes i ∷ quotas_from bytes (suc i) n

abbrev pub quotas_of : List ℕ → List ℕ
quotas_of bytes = quotas_from bytes 1 (length bytes / 8 - 1)
