-- The answer to an instant's call: which one each test in its turn gives, and what an answered call has passed.
-- Assumes nothing.
use mathlib.Core.Path.{◌≡◌, refl, sym, ◌∙◌, ap}
use mathlib.Core.Bool.{Bool, true, false, cond, not}
use mathlib.Core.List.{List}
use Prim.Native.Nat.{ℕ, ◌≤◌}
use native.Mathlib.Omega.{arith}
use borrow.Author.Tests.{le-leb, leb-true, eqb-true, not-true}
use lib.Dec.{leb, eqb}
use lib.IntN.{ℤ, pos}
use lib.ListN.{length, take, replicate}
use lib.Seq.{length-take-le}
use Rattle.answers.specs.declared.Place.{Place}
use Rattle.answers.specs.declared.Place.TheVariants.{File}
use Rattle.answers.specs.Answer.{Answer, accepted, refused, is_accepted}
use Rattle.answers.specs.Checks.{check, lowest}
use Rattle.answers.proofs.Checks.{by_check}
use Rattle.answers.proofs.Tests.{both_true}
use Rattle.node.specs.Inputs.{input_count}
use Rattle.node.specs.Layout.{streams_of}
use Rattle.node.specs.Reads.{order_of}
use Rattle.node.specs.Verdict.{verdict_of}
use Rattle.node.proofs.FileRules.{Sizes}
use Rattle.node.proofs.Notes.{accepted_sizes}
use Rattle.node.proofs.Outcomes.{is_accepted_is}
use Rattle.streams.specs.Instant.{input_fits, instant_of, value_inside, first_along, filled}
use Rattle.streams.specs.Nodes.{node_of}
use Rattle.streams.proofs.Evaluations.{instant_length}
use Rattle.session.specs.declared.Session.{Session}
use Rattle.session.specs.Records.{held_file, unstarted, untried, typed_unless, is_node, holds_node}
use Rattle.session.specs.Instants.{worked_out, in_order, answer_of, slice_of, with_trial, trial_of, moved_to, moved_on, commit_answer, commit_of, session_of}
use Rattle.session.specs.Working.{node_held}
use Rattle.session.proofs.Filled.{start_of_filled}
use Rattle.std.specs.Option.{is_some}
use Rattle.std.specs.Prelude.{Option, Some, None, option_map}
use Rattle.session.specs.declared.holding.Held.{Held}

-- a refusal is no answer
pub not_answered : {A : Type 0} {number : ℕ} {place : Place} → ◌≡◌ {A = Answer (Unit {0})} (refused number place) (accepted tt) → A
not_answered e = let n : ◌≡◌ {A = ℕ} 0 1 = cc in absurd (omega arith)

-- ---- what the node that was found says of the record

module _ (s : Session) where
  pub holds_none : node_held s ≡ None → holds_node s ≡ false
  unfolding node_held
  holds_none = go (holds_node s)
    where
      go : (b : Bool) → cond b (Some (streams_of (held_file s))) None ≡ None → b ≡ false
      go true e = let n : ◌≡◌ {A = ℕ} 0 1 = cc in absurd (omega arith)
      go false e = refl

  pub holds_one : {n : ℕ} → node_held s ≡ Some n → (holds_node s ≡ true) × (n ≡ streams_of (held_file s))
  unfolding node_held
  holds_one {n} = go (holds_node s)
    where
      go : (b : Bool) → cond b (Some (streams_of (held_file s))) None ≡ Some n → (b ≡ true) × (n ≡ streams_of (held_file s))
      go true e = (refl, cc)
      go false e = let n : ◌≡◌ {A = ℕ} 0 1 = cc in absurd (omega arith)

  -- .. and whether one was found
  pub found_holds : (found : Option Held) → option_map (λ (held : Held). held.streams) found ≡ node_held s → is_some found ≡ holds_node s
  unfolding node_held
  found_holds found = go (holds_node s) found
    where
      go : (b : Bool) (f : Option Held) → option_map (λ (held : Held). held.streams) f ≡ cond b (Some (streams_of (held_file s))) None → is_some f ≡ b
      go true (Some held) e = refl
      go true None e = let n : ◌≡◌ {A = ℕ} 0 1 = cc in absurd (omega arith)
      go false (Some held) e = let n : ◌≡◌ {A = ℕ} 0 1 = cc in absurd (omega arith)
      go false None e = refl

  module _ (e : holds_node s ≡ true) where
    short_and_node : (leb s.length 1040 ≡ true) × (is_node (held_file s) (unstarted s) s.last (untried s) s.trial ≡ true)
    unfolding holds_node
    short_and_node = both_true (leb s.length 1040) (is_node (held_file s) (unstarted s) s.last (untried s) s.trial) e

    pub held_short : s.length ≤ 1040
    held_short = leb-true s.length 1040 short_and_node.0

    pub held_accepted : is_accepted (verdict_of (held_file s)) ≡ true
    held_accepted = (both_true (is_accepted (verdict_of (held_file s))) _ short_and_node.1).0

    pub held_typed : (typed_unless (unstarted s) (held_file s) s.last ≡ true) × (typed_unless (untried s) (held_file s) s.trial ≡ true)
    held_typed = both_true _ _ (both_true (is_accepted (verdict_of (held_file s))) _ short_and_node.1).1

    pub held_sizes : Sizes (held_file s)
    held_sizes = accepted_sizes (held_file s) (is_accepted_is (held_file s) held_accepted)

  -- .. and what holds one
  pub holds_by : s.length ≤ 1040 → is_accepted (verdict_of (held_file s)) ≡ true → typed_unless (unstarted s) (held_file s) s.last ≡ true → typed_unless (untried s) (held_file s) s.trial ≡ true → holds_node s ≡ true
  unfolding holds_node
  holds_by short is_node_is last trial = rw (le-leb s.length 1040 short, is_node_is, last, trial)

-- ---- the answer, from what the tests gave

module _ (s : Session) (inputs : List ℤ) (room : ℕ) where
  pub answer_by : {node count size : Bool} {input value : Option ℕ} → holds_node s ≡ node → eqb (length inputs) (input_count (held_file s)) ≡ count → eqb room (streams_of (held_file s)) ≡ size → lowest (input_fits (held_file s) inputs) (streams_of (held_file s)) ≡ input → first_along (order_of (held_file s)) (value_inside (worked_out s inputs)) ≡ value → in_order node count size input value ≡ answer_of s inputs room
  unfolding answer_of
  answer_by a b c d e = sym (λ i. in_order (a i) (b i) (c i) (d i) (e i))

  -- ---- what an answered call has passed

  abbrev Passed : Answer (Unit {0}) → Type 0
  Passed a = a ≡ accepted tt → (holds_node s ≡ true) × (eqb room (streams_of (held_file s)) ≡ true)

  passed : Passed (answer_of s inputs room)
  unfolding answer_of
  passed =
      by_check Passed (holds_node s) 30 File _ (λ e. not_answered) λ holds.
      by_check Passed (eqb (length inputs) (input_count (held_file s))) 31 File _ (λ e. not_answered) λ count.
      by_check Passed (eqb room (streams_of (held_file s))) 32 File _ (λ e. not_answered) λ sized e. (holds, sized)

  pub answered_holds : answer_of s inputs room ≡ accepted tt → holds_node s ≡ true
  answered_holds e = (passed e).0

  pub answered_room : answer_of s inputs room ≡ accepted tt → room ≡ streams_of (held_file s)
  answered_room e = eqb-true room (streams_of (held_file s)) (passed e).1

  pub answered_few : answer_of s inputs room ≡ accepted tt → room ≤ 64
  answered_few e = omega (arith, answered_room e, (held_sizes s (passed e).0).few)

-- ---- record and slice

module _ (s : Session) (inputs slice values : List ℤ) where
  abbrev Answered : Type 0
  Answered = answer_of s inputs (length slice) ≡ accepted tt

  abbrev Has : Type 0
  Has = values ≡ filled 64 (pos 0) (worked_out s inputs)

  pub tries : Answered → Has → with_trial s values ≡ trial_of s inputs (length slice)
  unfolding trial_of
  tries e are = rw e (ap (with_trial s) are)

  pub moves : Answered → Has → moved_to s values ≡ session_of s inputs (length slice)
  unfolding session_of
  moves e are = rw e (ap (moved_to s) are)

  worked_length : length (worked_out s inputs) ≡ streams_of (held_file s)
  unfolding instant_of
  worked_length = instant_length (node_of (held_file s)) (order_of (held_file s)) inputs (unstarted s) s.last

  -- the slice's length is that of the values which are written
  pub room_is : Answered → length values ≡ 64 → length slice ≡ length (take (length slice) values)
  room_is e size = sym (length-take-le (length slice) values (omega (arith, size, answered_few s inputs (length slice) e)))

  writes_all : Answered → Has → take (length slice) values ≡ worked_out s inputs
  writes_all e are =
      ap (take (length slice)) are
      ∙ start_of_filled 64 (length slice) (pos 0) (worked_out s inputs) (worked_length ∙ sym (answered_room s inputs (length slice) e))

  pub writes : Answered → Has → take (length slice) values ≡ slice_of s inputs slice
  unfolding slice_of
  writes e are = rw e (writes_all e are)

pub refused_keeps : (s : Session) (inputs slice : List ℤ) {number : ℕ} {place : Place} → answer_of s inputs (length slice) ≡ refused number place → (trial_of s inputs (length slice) ≡ s) × (session_of s inputs (length slice) ≡ s) × (slice_of s inputs slice ≡ slice)
unfolding trial_of session_of slice_of
refused_keeps s inputs slice e = (rw e, rw e, rw e)

-- its spare bytes are not looked at: what is said of a record with zeros there is said of it
pub by_parts : (s : Session) (inputs slice : List ℤ) → let p : Session = record { length = s.length; last = s.last; trial = s.trial; file = s.file; started = s.started; held = s.held; spare = replicate 6 0 } in (answer_of p inputs (length slice) ≡ answer_of s inputs (length slice)) × (slice_of p inputs slice ≡ slice_of s inputs slice)
unfolding answer_of slice_of holds_node
by_parts s inputs slice = (refl, refl)

-- ---- a commit's answer, from what the tests gave

module _ (s : Session) where
  pub commit_by : {node free : Bool} → holds_node s ≡ node → untried s ≡ free → check node 30 File (check (not free) 35 File (accepted tt)) ≡ commit_answer s
  unfolding commit_answer
  commit_by a b = sym (λ i. check (a i) 30 File (check (not (b i)) 35 File (accepted tt)))

  pub commit_held : commit_answer s ≡ accepted tt → untried s ≡ false
  unfolding commit_answer
  commit_held =
      let P : Answer (Unit {0}) → Type 0 = λ a. a ≡ accepted tt → untried s ≡ false in
      by_check P (holds_node s) 30 File _ (λ e. not_answered) λ holds.
      by_check P (not (untried s)) 35 File _ (λ e. not_answered) λ held e. not-true (untried s) held

  pub commit_moves : commit_answer s ≡ accepted tt → moved_on s ≡ commit_of s
  unfolding commit_of
  commit_moves e = rw e

  pub commit_keeps : {number : ℕ} {place : Place} → commit_answer s ≡ refused number place → s ≡ commit_of s
  unfolding commit_of
  commit_keeps e = rw e
