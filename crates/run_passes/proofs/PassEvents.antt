-- An event's size, kind, counts, inputs and file, case by case, and what bounds them.
-- Assumes nothing.
use mathlib.Core.Path.{◌≡◌, refl, sym, ◌∙◌, ap}
use mathlib.Core.Bool.{Bool, true, false, cond}
use mathlib.Core.List.{List, [], ◌∷◌, ◌++◌}
use Prim.Native.Nat.{ℕ, zero, suc, ◌-◌, ◌<◌, ◌≤◌, min}
use native.Mathlib.Nat.{le_of_suc-le-suc, not-suc-le-zero}
use native.Mathlib.Omega.{arith}
use borrow.Author.Tests.{eq-eqb, ne_eqb, lt-ltb, le-ltb, ltb-true, ltb-false}
use lib.Dec.{eqb, ltb}
use lib.IntN.{ℤ, pos}
use lib.ListN.{length, take, drop, replicate, length-drop, length-replicate, drop_of_length-le}
use lib.Seq.{take-length, take_at, take_all}
use Rattle.fields.specs.Fields.{u16_at}
use Rattle.numbers.specs.Numbers.{number_at, numbers_from}
use Rattle.numbers.proofs.Capped.{capped}
use Rattle.numbers.proofs.Rows.{numbers_taken}
use Rattle.std.specs.List.{IsSplitAt}
use Rattle.std.specs.Prelude.{None, Some, Option, MatchOption}
use Rattle.answers.specs.Answer.{Answer}
use Rattle.report.specs.Call.{call_line}
use Rattle.report.specs.Line.{overwritten}
use Rattle.session.specs.declared.Session.{Session}
use Rattle.session.specs.Events.{Event, beginning, commit, old_call, after_event, after_events}
use Rattle.session.specs.Instants.{answer_of, slice_of, trial_of, session_of}
use Rattle.session.specs.Lists.{Call}
use Rattle.run_passes.specs.Pass.{size_of, first_size, kind_of, count_at, first_inputs, call_of, call_event, file_of, event_of, events_within, events_of, ShownOf}

module _ (events : List ℕ) where
  pub size_none : length events < 6 → first_size events ≡ 0
  unfolding first_size
  size_none l = rw (lt-ltb (length events) 6 l)

  pub size_cut : 6 ≤ length events → length events < size_of events → first_size events ≡ 0
  unfolding first_size
  size_cut h l = rw (le-ltb (length events) 6 h, lt-ltb (length events) (size_of events) l)

  pub size_whole : 6 ≤ length events → size_of events ≤ length events → first_size events ≡ size_of events
  unfolding first_size
  size_whole h l = rw (le-ltb (length events) 6 h, le-ltb (length events) (size_of events) l)

  within : (a b : Bool) → ltb (length events) 6 ≡ a → ltb (length events) (size_of events) ≡ b → first_size events ≤ length events
  within true b e f = omega (arith, size_none (ltb-true (length events) 6 e))
  within false true e f = omega (arith, size_cut (ltb-false (length events) 6 e) (ltb-true (length events) (size_of events) f))
  within false false e f =
      let whole = ltb-false (length events) (size_of events) f in
      omega (arith, size_whole (ltb-false (length events) 6 e) whole, whole)

  pub size_within : first_size events ≤ length events
  size_within = within (ltb (length events) 6) (ltb (length events) (size_of events)) refl refl

  -- whether the list is split after as many bytes as its first event has
  pub first_split : {A : Type 0} (o : Option A) (front back : A → List ℕ) (n : ℕ) → 6 ≤ length events → n ≡ size_of events
      → MatchOption o (length events < n) (λ p. IsSplitAt events n (front p) (back p))
      → MatchOption o (first_size events ≡ 0) (λ p. (0 < first_size events) × IsSplitAt events (first_size events) (front p) (back p))
  first_split None front back n h e is = size_cut h (rw e at is)
  first_split (Some p) front back n h e is =
      let whole = size_whole h (rw e at is.0) in
      rw whole (omega arith, rw e at is)

module _ (event : List ℕ) (at : ℕ) where
  pub count_none : length event < 6 → 0 ≡ count_at event at
  unfolding count_at
  count_none l = rw (lt-ltb (length event) 6 l)

  pub count_some : 6 ≤ length event → min (u16_at event at) 65 ≡ count_at event at
  unfolding count_at
  count_some h = rw (le-ltb (length event) 6 h) (capped (u16_at event at) 65)

  pub count_few : 6 ≤ length event → u16_at event at < 65 → u16_at event at ≡ count_at event at
  unfolding count_at
  count_few h l = rw (le-ltb (length event) 6 h, lt-ltb (u16_at event at) 65 l)

  pub count_many : 6 ≤ length event → 65 ≤ u16_at event at → 65 ≡ count_at event at
  unfolding count_at
  count_many h l = rw (le-ltb (length event) 6 h, le-ltb (u16_at event at) 65 l)

  at_most : (a : Bool) → ltb (length event) 6 ≡ a → count_at event at ≤ 65
  at_most true e = omega (arith, count_none (ltb-true (length event) 6 e))
  at_most false e = omega (arith, count_some (ltb-false (length event) 6 e))

  pub count_most : count_at event at ≤ 65
  count_most = at_most (ltb (length event) 6) refl

module _ (event : List ℕ) where
  -- where not even the counts are there, no input is
  pub no_inputs : length event < 6 → first_inputs event 65 ≡ replicate 65 (pos 0)
  unfolding number_at numbers_from
  no_inputs l = rw (drop_of_length-le event {i = 6} (omega arith))

  pub inputs_counted : (n : ℕ) (l : List ℤ) → l ≡ first_inputs event 65 → n ≡ count_at event 2 → take n l ≡ first_inputs event (count_at event 2)
  inputs_counted n l e f = rw (e, f) (numbers_taken (drop 6 event) (count_at event 2) 65 0 (count_most event 2))

-- the first values of a slice of sevens are such a slice
pub sevens_taken : (n m : ℕ) → n ≤ m → take n (replicate m (pos 7)) ≡ replicate n (pos 7)
sevens_taken zero m h = refl
sevens_taken (suc n) zero h = absurd (not-suc-le-zero h)
sevens_taken (suc n) (suc m) h = ap (λ (l : List ℤ). pos 7 ∷ l) (sevens_taken n m (le_of_suc-le-suc h))

-- what a trial or an old call on the event's inputs and on its part of a slice gives, and the line of that, are what the event gives and
-- shows
module _ {s next : Session} {answer : Answer (Unit {0})} (event : List ℕ) {inputs lent left : List ℤ} (rest : List ℤ) {room size : ℕ} {old new : List ℕ}
    (is_inputs : inputs ≡ first_inputs event (count_at event 2)) (is_room : room ≡ count_at event 4) (is_lent : lent ≡ replicate room (pos 7))
    (same : length left ≡ length lent)
    (said : (size ≡ length (call_line answer (take room (left ++ rest)))) × (new ≡ overwritten (call_line answer (take room (left ++ rest))) old))
  where
    pub shown_of : (is_trial : Bool)
        → (answer ≡ answer_of s inputs (length lent)) × (next ≡ cond is_trial (trial_of s inputs (length lent)) (session_of s inputs (length lent))) × (left ≡ slice_of s inputs lent)
        → ShownOf s (call_event is_trial (call_of event)) next size old new
    shown_of is_trial is =
        let all : length left ≡ room = same ∙ ap length is_lent ∙ length-replicate room (pos 7) in
        let of_call = rw (take_at left rest room all, is.0, is.2, is_lent, is_inputs, is_room) at said in
        let moved = rw (is_lent, is_inputs, is_room) at is.1 in
        go is_trial moved of_call
      where
        c : Call
        c = call_of event

        go : (b : Bool) → next ≡ cond b (trial_of s c.inputs (length c.slice)) (session_of s c.inputs (length c.slice))
            → (size ≡ length (call_line (answer_of s c.inputs (length c.slice)) (slice_of s c.inputs c.slice))) × (new ≡ overwritten (call_line (answer_of s c.inputs (length c.slice)) (slice_of s c.inputs c.slice)) old)
            → ShownOf s (call_event b c) next size old new
        go true moved of_call = record { moves = moved; past = of_call.0; line = of_call.1 }
        go false moved of_call = record { moves = moved; past = of_call.0; line = of_call.1 }

pub whole_rest : (left : List ℕ) (size : ℕ) → take (length left - size) (drop size left) ≡ drop size left
whole_rest left size = rw (← length-drop size left) (take-length (drop size left))

-- a beginning's file, of which there may be fewer bytes than its room
module _ (event : List ℕ) (room : ℕ) (e : room ≡ u16_at event 4) where
  pub file_cut : take room (take (length event - 6) (drop 6 event)) ≡ file_of event
  file_cut = rw (whole_rest event 6, e)

  pub file_whole : length event - 6 ≤ room → take (length event - 6) (drop 6 event) ≡ file_of event
  file_whole h = whole_rest event 6 ∙ sym (take_all (u16_at event 4) (drop 6 event) (rw length-drop (omega (arith, e))))

-- ---- which event it is

module _ (event : List ℕ) where
  pub kind_none : length event < 6 → kind_of event ≡ 0
  unfolding kind_of
  kind_none l = rw (lt-ltb (length event) 6 l)

  pub kind_there : 6 ≤ length event → kind_of event ≡ u16_at event 0
  unfolding kind_of
  kind_there l = rw (le-ltb (length event) 6 l)

  pub is_short : length event < 6 → old_call (call_of event) ≡ event_of event
  unfolding event_of
  is_short l = rw (kind_none l)

  -- a beginning's file is there
  pub beginning_long : kind_of event ≡ 3 → 6 ≤ length event
  beginning_long e = go (ltb (length event) 6) refl
    where
      go : (b : Bool) → ltb (length event) 6 ≡ b → 6 ≤ length event
      go true f = absurd (omega (arith, kind_none (ltb-true (length event) 6 f)))
      go false f = ltb-false (length event) 6 f

  pub is_beginning : kind_of event ≡ 3 → beginning (file_of event) ≡ event_of event
  unfolding event_of
  is_beginning e = rw (eq-eqb (kind_of event) 3 e)

  pub is_commit : ¬ (kind_of event ≡ 3) → kind_of event ≡ 2 → commit ≡ event_of event
  unfolding event_of
  is_commit n e = rw (ne_eqb (kind_of event) 3 n, eq-eqb (kind_of event) 2 e)

  pub is_call : ¬ (kind_of event ≡ 3) → ¬ (kind_of event ≡ 2) → call_event (eqb (kind_of event) 1) (call_of event) ≡ event_of event
  unfolding event_of
  is_call n m = rw (ne_eqb (kind_of event) 3 n, ne_eqb (kind_of event) 2 m)

  -- of an event with a kind, by its number
  pub is_kind : {k : ℕ} → 6 ≤ length event → k ≡ u16_at event 0
      → cond (eqb k 3) (beginning (file_of event)) (cond (eqb k 2) commit (call_event (eqb k 1) (call_of event))) ≡ event_of event
  unfolding event_of
  is_kind l e = rw (kind_there l, e)

  pub is_other : {k : ℕ} → 6 ≤ length event → k ≡ u16_at event 0 → ¬ (k ≡ 1) → ¬ (k ≡ 2) → ¬ (k ≡ 3) → old_call (call_of event) ≡ event_of event
  unfolding event_of
  is_other {k} l e not_1 not_2 not_3 = rw (kind_there l, sym e, ne_eqb k 3 not_3, ne_eqb k 2 not_2, ne_eqb k 1 not_1)

module _ (events : List ℕ) where
  none_within : (turns : ℕ) → first_size events ≤ 0 → events_within turns events ≡ []
  unfolding events_within
  none_within zero h = refl
  none_within (suc turns) h = rw (le-ltb 0 (first_size events) h)

  one_within : (turns : ℕ) → 0 < first_size events
      → events_within (suc turns) events ≡ event_of (take (first_size events) events) ∷ events_within turns (drop (first_size events) events)
  unfolding events_within
  one_within turns h = rw (lt-ltb 0 (first_size events) h)

  one_more : (t u : ℕ) (b : Bool) → ltb 0 (first_size events) ≡ b
      → (0 < first_size events → events_within t (drop (first_size events) events) ≡ events_within u (drop (first_size events) events))
      → events_within (suc t) events ≡ events_within (suc u) events
  one_more t u true e rest =
      let some = ltb-true 0 (first_size events) e in
      one_within t some ∙ ap (λ (l : List Event). event_of (take (first_size events) events) ∷ l) (rest some) ∙ sym (one_within u some)
  one_more t u false e rest =
      let none = ltb-false 0 (first_size events) e in
      none_within (suc t) none ∙ sym (none_within (suc u) none)

-- more turns than bytes find no more events
enough : (t u : ℕ) (events : List ℕ) → length events ≤ t → length events ≤ u → events_within t events ≡ events_within u events
enough zero u events h k =
    let none : first_size events ≤ 0 = omega (arith, size_within events) in
    none_within events zero none ∙ sym (none_within events u none)
enough (suc t) zero events h k =
    let none : first_size events ≤ 0 = omega (arith, size_within events) in
    none_within events (suc t) none ∙ sym (none_within events zero none)
enough (suc t) (suc u) events h k =
    one_more events t u (ltb 0 (first_size events)) refl
    (λ some. enough t u (drop (first_size events) events) (rw length-drop (omega arith)) (rw length-drop (omega arith)))

module _ (events : List ℕ) where
  pub no_event : first_size events ≤ 0 → events_of events ≡ []
  unfolding events_of
  no_event h = none_within events (length events) h

  -- the first event, then those of the bytes after it
  pub one_event : 0 < first_size events → events_of events ≡ event_of (take (first_size events) events) ∷ events_of (drop (first_size events) events)
  unfolding events_of
  one_event h =
      enough (length events) (suc (length events)) events (omega arith) (omega arith)
      ∙ one_within events (length events) h
      ∙ ap (λ (l : List Event). event_of (take (first_size events) events) ∷ l) (enough (length events) (length (drop (first_size events) events)) (drop (first_size events) events) (rw length-drop (omega arith)) (omega arith))

module _ (s : Session) (left : List ℕ) where
  -- an event made leaves those after it
  pub one_made : (next : Session) {event rest : List ℕ} → 0 < first_size left → IsSplitAt left (first_size left) event rest → next ≡ after_event s (event_of event)
      → after_events next (events_of rest) ≡ after_events s (events_of left)
  unfolding after_events
  one_made next some split made =
      rw (made, split.1, split.2) (sym (ap (after_events s) (one_event left some)))

  pub all_made : first_size left ≡ 0 → s ≡ after_events s (events_of left)
  unfolding after_events
  all_made none = sym (ap (after_events s) (no_event left (omega (arith, none))))
