-- An answer in numbers. 0 stands for accepted, and for no place; a refusal has the paper's number.
use Rattle.std.specs.Prelude.{ℕ, ℤ, pos, Err, Ok}
use Rattle.answers.specs.declared.Place.{Place}
use Rattle.answers.specs.declared.Place.TheVariants.{File, Record, Constraint, Line, Base, Step}
use Rattle.answers.specs.Answer.{Answer, TurnAnswer, final, unfinished}
use Rattle.answers.specs.declared.NodeValues.{NodeValues}
use Rattle.answers.specs.declared.CertificateValues.{CertificateValues}
use Rattle.rules.specs.Turns.{Turn}
use Rattle.capi.specs.declared.told.Told.{Told}
use Rattle.capi.specs.declared.turns.ToldTurn.{ToldTurn}
use Rattle.capi.specs.declared.look_ups.ToldLookUp.{ToldLookUp}

abbrev pub place_number : Place → ℕ
place_number File = 1
place_number (Record i) = 2
place_number (Constraint i) = 3
place_number (Line i) = 4
place_number Base = 5
place_number Step = 6

-- which record, constraint or line
abbrev pub place_index : Place → ℕ
place_index File = 0
place_index (Record i) = i
place_index (Constraint i) = i
place_index (Line i) = i
place_index Base = 0
place_index Step = 0

abbrev pub told_accepted : (first second third : ℕ) → Told
told_accepted first second third =
    record { number = 0; place = 0; index = 0; first = first; second = second; third = third }

abbrev pub told_refused : (number : ℕ) → Place → Told
told_refused number place =
    record { number = number; place = place_number place; index = place_index place; first = 0; second = 0; third = 0 }

-- an answer, where `values` tells what an accepted one carries
abbrev pub told_of : {A : Type 0} → (values : A → Told) → Answer A → Told
told_of values (Ok a) = values a
told_of values (Err r) = told_refused r.number r.place

-- a node file's: streams and property
unfoldable pub told_node : Answer NodeValues → Told
told_node answer = told_of (λ v. told_accepted v.streams v.property 0) answer

-- a certificate's: depth and both line counts
unfoldable pub told_certificate : Answer CertificateValues → Told
told_certificate answer = told_of (λ v. told_accepted v.depth v.base v.step) answer

-- that to a trial, a commit, the old call and a table of ranges: nothing
unfoldable pub told_plain : Answer (Unit {0}) → Told
told_plain answer = told_of (λ _. told_accepted 0 0 0) answer

-- lines are left: 256, which is no refusal's number
abbrev pub told_unfinished : Told
told_unfinished = record { number = 256; place = 0; index = 0; first = 0; second = 0; third = 0 }

-- a turn's answer: a final one is told as a certificate's
unfoldable pub told_answer : TurnAnswer → Told
told_answer (final answer) = told_certificate answer
told_answer unfinished = told_unfinished

-- a turn: its answer, the record and the number checked
unfoldable pub told_turn : Turn → ToldTurn
told_turn t = record { answer = told_answer t.answer; progress = record { line = t.line }; checked = t.checked }

-- a look-up: its answer without values, and beside it the value, 0 where it is refused
unfoldable pub told_look_up : Answer ℤ → ToldLookUp
told_look_up (Ok x) = record { answer = told_accepted 0 0 0; value = x }
told_look_up (Err r) = record { answer = told_refused r.number r.place; value = pos 0 }
