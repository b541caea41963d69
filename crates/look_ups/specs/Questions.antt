-- The files of look-ups, this repository's own formats, and their answers.
use Rattle.std.specs.Prelude.{ℕ, zero, suc, ◌+◌, ◌-◌, ◌*◌, ◌/◌, cond, List, ltb, ℤ, length}
use Rattle.answers.specs.Answer.{Answer, if_accepted}
use Rattle.numbers.specs.Numbers.{unsigned_at, numbers_from}
use Rattle.look_up.specs.LookUp.{look_up_of}

-- A history file: signed numbers in a row, the inputs of all instants in turn. This is how many it has: a cut-off last number is
-- ignored, and more than 2,048 count as the first 2,048.
unfoldable pub size_of : List ℕ → ℕ
size_of bytes = cond (ltb (length bytes / 8) 2048) (length bytes / 8) 2048

abbrev pub history_of : List ℕ → List ℤ
history_of bytes = numbers_from bytes 0 (size_of bytes)

-- A questions file: unsigned numbers in a row, first the count of the history's instants, then a pair a question, stream and instant. A
-- cut-off last number and a number without its pair are ignored; a file without a first number has count 0.
abbrev pub count_of : List ℕ → ℕ
count_of bytes = unsigned_at bytes 0

unfoldable pub pairs_of : List ℕ → ℕ
pairs_of bytes = (length bytes / 8 - 1) / 2

-- question i
abbrev pub stream_of : List ℕ → (i : ℕ) → ℕ
stream_of bytes i = unsigned_at bytes (2 * i + 1)

abbrev pub instant_of : List ℕ → (i : ℕ) → ℕ
instant_of bytes i = unsigned_at bytes (2 * i + 2)

abbrev pub answer_of : (node history questions : List ℕ) → (i : ℕ) → Answer ℤ
answer_of node history questions i = look_up_of node (count_of questions) (history_of history) (stream_of questions i) (instant_of questions i)

-- 1 for a value
abbrev pub values_in : Answer ℤ → ℕ
values_in a = if_accepted a 1 0

-- how many of n questions from question i on have a value
unfoldable pub values_from : (node history questions : List ℕ) → (i n : ℕ) → ℕ
values_from node history questions i zero = 0
values_from node history questions i (suc n) = values_in (answer_of node history questions i) + values_from node history questions (suc i) n
