-- An answer as the paper gives it: accepted with its values, or refused with a number and a place. The promises of
-- reader, session, checker, flight list and look-up are stated by it.
use mathlib.Core.Logic.{◌⊎◌, inl, inr}
use Rattle.std.specs.Prelude.{Bool, true, false, ℕ, Option, Some, None, Result, Ok, Err}
use Rattle.answers.specs.declared.Place.{Place}
use Rattle.answers.specs.declared.Refusal.{Refusal}
use Rattle.answers.specs.declared.CertificateValues.{CertificateValues}

-- "An answer is accepted .., or refused with a number and a place": A is what an accepted one carries
abbrev pub Answer : Type 0 → Type 0
Answer A = Result A Refusal

pattern abbrev pub accepted : {A : Type 0} → A → Answer A
accepted a = Ok a

abbrev pub refused : {A : Type 0} → (number : ℕ) → Place → Answer A
refused number place = Err (record { number = number; place = place })

-- what an accepted answer gives, or what a refusal keeps
abbrev pub if_accepted : {A S : Type 0} → Answer A → (moved kept : S) → S
if_accepted (Ok a) moved kept = moved
if_accepted (Err r) moved kept = kept

abbrev pub is_accepted : {A : Type 0} → Answer A → Bool
is_accepted a = if_accepted a true false

-- a turn's answer: "While lines are left the answer is "unfinished"", else it is final
abbrev pub TurnAnswer : Type 0
TurnAnswer = Option (Answer CertificateValues)

pattern abbrev pub final : Answer CertificateValues → TurnAnswer
final answer = Some answer

pattern abbrev pub unfinished : TurnAnswer
unfinished = None

-- an answer whose values are looked at through f
abbrev pub answer_map : {A B : Type 0} → (A → B) → Answer A → Answer B
answer_map f (Ok a) = Ok (f a)
answer_map f (Err r) = Err r

-- an answer as the paper writes it: what an accepted one carries, or a number and a place
abbrev pub in_numbers : {A : Type 0} → Answer A → A ⊎ (ℕ × Place)
in_numbers (Ok a) = inl a
in_numbers (Err r) = inr (r.number, r.place)

-- a turn's, where none is that it is unfinished
abbrev pub turn_in_numbers : TurnAnswer → Option (CertificateValues ⊎ (ℕ × Place))
turn_in_numbers (final answer) = Some (in_numbers answer)
turn_in_numbers unfinished = None
