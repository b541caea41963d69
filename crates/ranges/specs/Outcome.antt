-- The rules of a listed node one by one: what a listed one keeps, and what a refusal says. Both are proved of every answer
-- (proofs/Outcomes.antt).
use Rattle.std.specs.Prelude.{ℕ, ◌*◌, ◌<◌, ◌≡◌, List, true, ℤ, length, Err, Ok}
use Rattle.answers.specs.declared.Place.{Place}
use Rattle.answers.specs.declared.Place.TheVariants.{File, Record as AtRecord}
use Rattle.answers.specs.Answer.{Answer}
use Rattle.answers.specs.Checks.{Lowest}
use Rattle.node.specs.Layout.{streams_of}
use Rattle.node.specs.Outcome.{NodeRules}
use Rattle.node.specs.Outcome as Node
use Rattle.ranges.specs.Listing.{ends_ok, results_ok}

-- 71 and 72, at each stream
abbrev pub AllEnds : (file : List ℕ) → (table : List ℤ) → Type 0
AllEnds file table = (i : ℕ) → i < streams_of file → ends_ok file table i ≡ true

abbrev pub AllResults : (file : List ℕ) → (table : List ℤ) → Type 0
AllResults file table = (i : ℕ) → i < streams_of file → results_ok file table i ≡ true

pub record ListedRules (file : List ℕ) (table : List ℤ) : Type 0 where
  pub node : NodeRules file
  pub size : length table ≡ 2 * streams_of file
  pub ends : AllEnds file table
  pub results : AllResults file table

-- what a refusal says: the rules before it hold, and 72 is met at its "lowest record"
pub data FirstFailure (file : List ℕ) (table : List ℤ) : (number : ℕ) → Place → Type 0 where
  in_node : {number : ℕ} {place : Place} → Node.FirstFailure file number place → FirstFailure file table number place
  at_71_size : NodeRules file → ¬ (length table ≡ 2 * streams_of file) → FirstFailure file table 71 File
  at_71_ends : NodeRules file → length table ≡ 2 * streams_of file → ¬ (AllEnds file table) → FirstFailure file table 71 File
  at_72 : {i : ℕ} → NodeRules file → length table ≡ 2 * streams_of file → AllEnds file table → Lowest (results_ok file table) (streams_of file) i → FirstFailure file table 72 (AtRecord i)

-- what each answer to a node and its table says
abbrev pub Says : (file : List ℕ) → (table : List ℤ) → Answer (Unit {0}) → Type 0
Says file table (Ok _) = ListedRules file table
Says file table (Err r) = FirstFailure file table r.number r.place
