-- A table file, this repository's own format: numbers in a row, least and greatest of stream 0, of stream 1, and on.
use Rattle.std.specs.Prelude.{ℕ, ◌/◌, ◌%◌, cond, List, eqb, ltb, ℤ, length}
use Rattle.numbers.specs.Numbers.{numbers_from}

-- how many numbers it has; none where its length is no multiple of 8; more than 129, one more than any node's table has, are 129
unfoldable pub size_of : List ℕ → ℕ
size_of bytes = cond (eqb (length bytes % 8) 0) (cond (ltb (length bytes / 8) 129) (length bytes / 8) 129) 0

abbrev pub table_of : List ℕ → List ℤ
table_of bytes = numbers_from bytes 0 (size_of bytes)
