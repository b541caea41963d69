-- What is proved of the exported calls, stated without the proofs.
use Rattle.std.specs.Prelude.{ℕ, ◌+◌, ◌≡◌, true, List, ℤ}
use Rattle.answers.specs.Answer.{Answer, accepted, is_accepted, TurnAnswer, final}
use Rattle.answers.specs.declared.CertificateValues.{CertificateValues}
use Rattle.node.specs.Reads.{All}
use Rattle.node.specs.Verdict.{verdict_of as node_verdict}
use Rattle.streams.specs.Solutions.{Streams}
use Rattle.histories.specs.Theorems.{SolvesHistory}
use Rattle.look_up.specs.LookUp.{look_up_of}
use Rattle.look_up.specs.Theorems.{Asked, LooksUp}
use Rattle.session.specs.declared.Session.{Session}
use Rattle.session.specs.Events.{Event, begun_run, after_events, last_run, runs}
use Rattle.session.specs.Instants.{answer_of, commit_answer}
use Rattle.session.specs.Records.{begun_of}
use Rattle.session.specs.Theorems.{RunShows, ExactNext}
use Rattle.rules.specs.Turns.{begun_line, turn_of, line_after, checked_in}
use Rattle.rules.specs.Verdict.{lines_of, verdict_of}
use Rattle.rules.specs.Versions.{version2}
use Rattle.ranges.specs.Listing.{listing_of}
use Rattle.ranges.specs.Theorems.{StaysInside}
use Rattle.soundness.specs.Demands.{Demanded}
use Rattle.capi.specs.declared.told.Told.{Told}
use Rattle.capi.specs.Answers.{told_node, told_certificate, told_plain, told_answer, told_turn, told_look_up}

-- no two answers have the same numbers
abbrev pub Tells : {A : Type 0} → (Answer A → Told) → Type 0
Tells {A} told = (a b : Answer A) → told a ≡ told b → a ≡ b

pub record NumbersTell : Type 0 where
  pub node : Tells told_node
  pub certificate : Tells told_certificate
  pub turn : (a b : TurnAnswer) → told_answer a ≡ told_answer b → a ≡ b
  pub plain : Tells told_plain
  pub look_up : (a b : Answer ℤ) → told_look_up a ≡ told_look_up b → a ≡ b

-- number 0 says accepted
pub record ZeroAccepts : Type 0 where
  pub node : (file : List ℕ) → (told_node (node_verdict file)).number ≡ 0 → is_accepted (node_verdict file) ≡ true
  pub certificate : (node cert : List ℕ) → (told_certificate (verdict_of version2 node cert)).number ≡ 0 → is_accepted (verdict_of version2 node cert) ≡ true
  pub turn : (node cert : List ℕ) (line quota : ℕ) → (told_turn (turn_of version2 node cert line quota)).answer.number ≡ 0 → (v : CertificateValues) × ((turn_of version2 node cert line quota).answer ≡ final (accepted v))
  -- of a trial and of the old call
  pub instant : (s : Session) (inputs : List ℤ) (room : ℕ) → (told_plain (answer_of s inputs room)).number ≡ 0 → is_accepted (answer_of s inputs room) ≡ true
  pub commit : (s : Session) → (told_plain (commit_answer s)).number ≡ 0 → is_accepted (commit_answer s) ≡ true
  pub ranges : (file : List ℕ) (table : List ℤ) → (told_plain (listing_of file table)).number ≡ 0 → is_accepted (listing_of file table) ≡ true
  pub look_up : (file : List ℕ) (count : ℕ) (inputs : List ℤ) (stream instant : ℕ) → (told_look_up (look_up_of file count inputs stream instant)).answer.number ≡ 0 → is_accepted (look_up_of file count inputs stream instant) ≡ true

-- demand 2 of the exported calls, whatever bytes the record held: what is told of a call is told of the answer that `ExactNext` gives
abbrev pub ExportedSessionsExact : Type 0
ExportedSessionsExact =
    (file : List ℕ) → (told_node (node_verdict file)).number ≡ 0
    → (before : Session) (events : List Event)
    → let s = begun_of file before in
    let r = begun_run file in
    All RunShows (runs s r events) × ExactNext (after_events s events) (last_run s r events)

-- demand 3 of the exported calls: the beginning's number is 0 too
abbrev pub ExportedDemand3 : Type 0
ExportedDemand3 =
    (node cert : List ℕ) → (told_certificate (verdict_of version2 node cert)).number ≡ 0
    → (before : Session) (events : List Event)
    → ((told_node (node_verdict node)).number ≡ 0) × Demanded node before events

-- the exported turns on the same two files, each of the record that the one before gave, the first of a begun one: an answer that is not
-- "unfinished", which is 256, is told as that of one call; and one with number 0 is an acceptance in demand 3, with all lines checked
pub record ExportedTurns (node cert : List ℕ) (quotas : List ℕ) (quota : ℕ) : Type 0 where
  pub final_answer :
      let t = turn_of version2 node cert (line_after version2 node cert begun_line quotas) quota in
      ((told_turn t).answer.number ≡ 256 → ⊥) → (told_turn t).answer ≡ told_certificate (verdict_of version2 node cert)
  pub demanded :
      let t = turn_of version2 node cert (line_after version2 node cert begun_line quotas) quota in
      (told_turn t).answer.number ≡ 0
      → (checked_in version2 node cert begun_line quotas + (told_turn t).checked ≡ lines_of cert)
      × ((before : Session) (events : List Event) → ((told_node (node_verdict node)).number ≡ 0) × Demanded node before events)

abbrev pub ExportedTurnsDemand3 : Type 0
ExportedTurnsDemand3 = (node cert : List ℕ) (quotas : List ℕ) (quota : ℕ) → ExportedTurns node cert quotas quota

-- listed nodes by the exported calls: the beginning's number is 0 too
abbrev pub ExportedSessionsInside : Type 0
ExportedSessionsInside =
    (file : List ℕ) (table : List ℤ) → (told_plain (listing_of file table)).number ≡ 0
    → (before : Session) (events : List Event)
    → let s = begun_of file before in
    let r = last_run s (begun_run file) events in
    ((told_node (node_verdict file)).number ≡ 0) × (r.node ≡ file → StaysInside file table (after_events s events) r)

-- look-ups by the exported call: where the number is 0, the value is that of every solution on inputs that start with the history, of
-- which there is one; the beginning's number is 0 too
abbrev pub ExportedLookUps : Type 0
ExportedLookUps =
    (file : List ℕ) (count : ℕ) (inputs : List ℤ) (stream instant : ℕ)
    → let told = told_look_up (look_up_of file count inputs stream instant) in
    told.answer.number ≡ 0
    → ((told_node (node_verdict file)).number ≡ 0)
    × Asked file count inputs stream instant
    × LooksUp file count inputs stream instant
    × ((v : Streams) → SolvesHistory file count inputs v → told.value ≡ v instant stream)
