-- "A call takes a quota of lines and a progress record": checking in turns. The record is one line number, that of the next line.
use Rattle.std.specs.Prelude.{ℕ, ◌+◌, ◌-◌, min, List, [], ◌∷◌, Bool, cond, leb, ltb, Err, None, Ok, Option, Some}
use Rattle.answers.specs.declared.Place.TheVariants.{File}
use Rattle.answers.specs.Answer.{Answer, accepted, TurnAnswer, final, unfinished}
use Rattle.answers.specs.Checks.{check, lowest}
use Rattle.rules.specs.Verdict.{lines_of, line_fault, line_passes, check_lines, parts_verdict, before_lines}
use Rattle.rules.specs.Versions.{Version}

-- what a turn gives: its answer, the record and the number checked
pub record Turn : Type 0 where
  pub answer : TurnAnswer
  pub line : ℕ
  pub checked : ℕ

-- a record "begun by our own call"
abbrev pub begun_line : ℕ
begun_line = 0

-- no file of 65,535 bytes has more lines: a trailer has 16, a line 80
abbrev pub most_lines : ℕ
most_lines = 818

-- "the next lines .., that many or all that are left": how many, from a line on
abbrev pub due_of : (cert : List ℕ) → (line quota : ℕ) → ℕ
due_of cert line quota = min quota (lines_of cert - line)

-- the lowest of n lines from a line on at which a test fails
abbrev pub counted_from : (line : ℕ) → Option ℕ → Option ℕ
counted_from line (Some j) = Some (line + j)
counted_from line None = None

abbrev pub lowest_from : (ok : ℕ → Bool) → (line n : ℕ) → Option ℕ
lowest_from ok line n = counted_from line (lowest (λ j. ok (line + j)) n)

-- "checks the next lines in order .. up to the first refused": n lines from a line on
unfoldable pub next_lines : Version → (node cert : List ℕ) → (line n : ℕ) → Answer (Unit {0})
next_lines version node cert line n =
    check_lines (lowest_from (line_passes version node cert) line n) (line_fault version node cert) (accepted tt)

-- "While lines are left the answer is "unfinished""; where none is left, that of the checks after all lines
unfoldable pub after_lines : Version → (node cert : List ℕ) → (line : ℕ) → TurnAnswer
after_lines version node cert line = cond (ltb line (lines_of cert)) unfinished (final (parts_verdict version node cert))

-- where checks pass, the answer is that of those after
abbrev pub then_turn : Answer (Unit {0}) → TurnAnswer → TurnAnswer
then_turn (Ok passed) rest = rest
then_turn (Err r) rest = final (Err r)

-- "55, progress past the last line"; then the lines, and what is after them
unfoldable pub lines_turn : Version → (node cert : List ℕ) → (line quota : ℕ) → TurnAnswer
lines_turn version node cert line quota =
    let n = due_of cert line quota in
    then_turn (check (leb line (lines_of cert)) 55 File (next_lines version node cert line n)) (after_lines version node cert (line + n))

-- "after 15": the checks before lines, in every turn
unfoldable pub turn_answer_of : Version → (node cert : List ℕ) → (line quota : ℕ) → TurnAnswer
turn_answer_of version node cert line quota =
    then_turn (before_lines version node cert) (lines_turn version node cert line quota)

-- the record moves on by the n lines that were checked; "a refused turn returns its record unmoved, with 0"
abbrev pub moved : TurnAnswer → (line n : ℕ) → Turn
moved (final (Ok values)) line n = record { answer = final (accepted values); line = line + n; checked = n }
moved (final (Err r)) line n = record { answer = final (Err r); line = line; checked = 0 }
moved unfinished line n = record { answer = unfinished; line = line + n; checked = n }

unfoldable pub turn_of : Version → (node cert : List ℕ) → (line quota : ℕ) → Turn
turn_of version node cert line quota = moved (turn_answer_of version node cert line quota) line (due_of cert line quota)

-- "For the same two files in each turn, and .. in each turn the one that the turn before gave, unchanged": the record after a turn for each of
-- these quotas, and all that they checked
unfoldable pub line_after : Version → (node cert : List ℕ) → (line : ℕ) → (quotas : List ℕ) → ℕ
line_after version node cert line [] = line
line_after version node cert line (quota ∷ quotas) =
    line_after version node cert (turn_of version node cert line quota).line quotas

unfoldable pub checked_in : Version → (node cert : List ℕ) → (line : ℕ) → (quotas : List ℕ) → ℕ
checked_in version node cert line [] = 0
checked_in version node cert line (quota ∷ quotas) =
    let t = turn_of version node cert line quota in
    t.checked + checked_in version node cert t.line quotas
