-- The rules of a node file one by one: what an accepted file keeps, and what a refusal says. Both are proved of every answer
-- (proofs/Outcomes.antt), so that no crate above looks into the verdict.
use Rattle.std.specs.Prelude.{ℕ, ◌<◌, ◌≡◌, List, true, false, length, Err, Ok}
use Rattle.answers.specs.declared.Place.{Place}
use Rattle.answers.specs.declared.Place.TheVariants.{File, Record as AtRecord}
use Rattle.answers.specs.Answer.{Answer, refused}
use Rattle.answers.specs.declared.NodeValues.{NodeValues}
use Rattle.answers.specs.Checks.{Lowest}
use Rattle.node.specs.declared.reading.RecordRule.{RecordRule}
use Rattle.node.specs.declared.reading.RecordRule.TheVariants.{Shape, Operands, Types}
use Rattle.node.specs.Layout.{trailer_of, streams_of, property_of, type_byte_of}
use Rattle.node.specs.Order.{is_among, Circle}
use Rattle.node.specs.Reads.{needs_of, order_of}
use Rattle.node.specs.Rules.{length_ok, fixed_ok, counts_ok, distance_ok, property_ok}
use Rattle.node.specs.Verdict.{passes_of, verdict_of}

-- 1 to 4
pub record FileRules (s : List ℕ) : Type 0 where
  pub size : length_ok (length s) ≡ true
  pub fixed : fixed_ok (trailer_of s) ≡ true
  pub counts : counts_ok (trailer_of s) ≡ true
  pub distance : distance_ok (trailer_of s) (length s) ≡ true

-- a rule of records, at each of them
abbrev pub AllKeep : List ℕ → RecordRule → Type 0
AllKeep s rule = (i : ℕ) → i < streams_of s → passes_of s (streams_of s) rule i ≡ true

-- 23: each record stands in the worked-out order
abbrev pub AllPlaced : List ℕ → Type 0
AllPlaced s = (i : ℕ) → i < streams_of s → is_among (order_of s) i ≡ true

-- 1 to 8, with 23 "after 6 and before 7"
pub record NodeRules (s : List ℕ) : Type 0 where
  pub file : FileRules s
  pub shapes : AllKeep s Shape
  pub operands : AllKeep s Operands
  pub placed : AllPlaced s
  pub types : AllKeep s Types
  pub property : property_ok (type_byte_of s (property_of s)) ≡ true

-- the lowest record that breaks a rule of records
abbrev pub LowestBad : List ℕ → RecordRule → ℕ → Type 0
LowestBad s rule = Lowest (passes_of s (streams_of s) rule) (streams_of s)

-- "the lowest record never placed"
abbrev pub NeverPlaced : List ℕ → ℕ → Type 0
NeverPlaced s = Lowest (is_among (order_of s)) (streams_of s)

-- what a refusal says: the rules before it hold, and it is met at its lowest place
pub data FirstFailure (s : List ℕ) : (number : ℕ) → Place → Type 0 where
  at_1 : length_ok (length s) ≡ false → FirstFailure s 1 File
  at_2 : length_ok (length s) ≡ true → fixed_ok (trailer_of s) ≡ false → FirstFailure s 2 File
  at_3 : length_ok (length s) ≡ true → fixed_ok (trailer_of s) ≡ true → counts_ok (trailer_of s) ≡ false → FirstFailure s 3 File
  at_4 : length_ok (length s) ≡ true → fixed_ok (trailer_of s) ≡ true → counts_ok (trailer_of s) ≡ true → distance_ok (trailer_of s) (length s) ≡ false → FirstFailure s 4 File
  at_5 : {i : ℕ} → FileRules s → LowestBad s Shape i → FirstFailure s 5 (AtRecord i)
  at_6 : {i : ℕ} → FileRules s → AllKeep s Shape → LowestBad s Operands i → FirstFailure s 6 (AtRecord i)
  at_23 : {i : ℕ} → FileRules s → AllKeep s Shape → AllKeep s Operands → NeverPlaced s i → FirstFailure s 23 (AtRecord i)
  at_7 : {i : ℕ} → FileRules s → AllKeep s Shape → AllKeep s Operands → AllPlaced s → LowestBad s Types i → FirstFailure s 7 (AtRecord i)
  at_8 : FileRules s → AllKeep s Shape → AllKeep s Operands → AllPlaced s → AllKeep s Types → property_ok (type_byte_of s (property_of s)) ≡ false → FirstFailure s 8 (AtRecord (property_of s))

-- "It is refused just when some chain of such operands returns to its start", where it passes 1 to 6
pub record CircleRefused (s : List ℕ) : Type 0 where
  pub circle : {place : Place} → verdict_of s ≡ refused 23 place → Circle (needs_of s) (streams_of s)
  pub refusal : FileRules s → AllKeep s Shape → AllKeep s Operands → Circle (needs_of s) (streams_of s) → (i : ℕ) × (verdict_of s ≡ refused 23 (AtRecord i))

-- what each answer to a node file says
abbrev pub Says : List ℕ → Answer NodeValues → Type 0
Says s (Ok node) = NodeRules s × (node ≡ record { streams = streams_of s; property = property_of s })
Says s (Err r) = FirstFailure s r.number r.place
