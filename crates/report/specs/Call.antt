-- The line that is printed for a call of a session: its values, or its refusal and then whether the slice still holds its sevens.
use Rattle.std.specs.Prelude.{ℕ, Bool, true, false, cond, List, [], ◌∷◌, ◌++◌, eqb, ℤ, pos, negsuc, nat_abs, Err, Ok}
use Rattle.std.specs.Int.Signed.{lt_z}
use Rattle.answers.specs.Answer.{Answer}
use Rattle.answers.specs.declared.Place.{Place}
use Rattle.report.specs.Decimal.{decimal}
use Rattle.report.specs.Line.{refused_text}
use Rattle.report.specs.Words.{answered_word, kept_end, changed_end, newline}

-- a space, and the sign of a number below 0
abbrev pub sign_text : (negative : Bool) → List ℕ
sign_text negative = cond negative (32 ∷ 45 ∷ []) (32 ∷ [])

abbrev pub signed_text : ℤ → List ℕ
signed_text x = sign_text (lt_z x (pos 0)) ++ decimal (nat_abs x)

unfoldable pub values_text : List ℤ → List ℕ
values_text [] = []
values_text (x ∷ xs) = signed_text x ++ values_text xs

abbrev pub is_seven : ℤ → Bool
is_seven (pos n) = eqb n 7
is_seven (negsuc n) = false

-- all are the sevens that the slice held before the call
unfoldable pub is_kept : List ℤ → Bool
is_kept [] = true
is_kept (x ∷ xs) = cond (is_seven x) (is_kept xs) false

abbrev pub kept_text : (slice : List ℤ) → List ℕ
kept_text slice = cond (is_kept slice) kept_end changed_end

abbrev pub answered_text : (values : List ℤ) → List ℕ
answered_text values = (answered_word ++ values_text values) ++ newline

abbrev pub not_answered_text : (number : ℕ) → Place → (slice : List ℤ) → List ℕ
not_answered_text number place slice = refused_text number place ++ kept_text slice

unfoldable pub call_line : Answer (Unit {0}) → (slice : List ℤ) → List ℕ
call_line (Ok a) slice = answered_text slice
call_line (Err r) slice = not_answered_text r.number r.place slice
