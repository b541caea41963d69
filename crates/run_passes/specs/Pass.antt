-- A pass file, this repository's own format: a list of events, each a u16 kind, a u16 count of inputs, a u16 length of the slice, and the
-- inputs, signed and of 64 bits; all little-endian. Kind 1 is a trial, 2 a commit and 3 a beginning; every other is the old call. What stands
-- where a commit's inputs would is passed over; where a beginning's would stands its file, cut off after as many bytes as the slice would be long.
use Rattle.std.specs.Prelude.{◌≡◌, ℕ, zero, suc, ◌+◌, ◌*◌, ◌≤◌, Bool, cond, List, [], ◌∷◌, eqb, ltb, ℤ, pos, length, take, drop, replicate}
use Rattle.fields.specs.Fields.{u16_at}
use Rattle.numbers.specs.Numbers.{numbers_from}
use Rattle.report.specs.Call.{call_line}
use Rattle.report.specs.Line.{overwritten}
use Rattle.session.specs.declared.Session.{Session}
use Rattle.session.specs.Events.{Event, beginning, trial, commit, old_call, event_answer, after_event, lent_after}
use Rattle.session.specs.Lists.{Call}
use Rattle.run_passes.specs.declared.pass.Kind.{Kind}
use Rattle.run_passes.specs.declared.pass.Kind.TheVariants.{OldCall, Trial, Commit, Beginning}

-- how many bytes an event has, by its count
abbrev pub size_of : List ℕ → ℕ
size_of events = 6 + 8 * u16_at events 2

-- how many bytes the first event of a list has; 0 where no whole event is there
unfoldable pub first_size : List ℕ → ℕ
first_size events = cond (ltb (length events) 6) 0 (cond (ltb (length events) (size_of events)) 0 (size_of events))

unfoldable pub kind_of : List ℕ → ℕ
kind_of event = cond (ltb (length event) 6) 0 (u16_at event 0)

-- a number over 65, which is one more than any node has, is made 65
abbrev pub at_most65 : ℕ → ℕ
at_most65 n = cond (ltb n 65) n 65

-- the count of inputs, at offset 2 of an event, and the length of its slice, at 4
unfoldable pub count_at : List ℕ → (at : ℕ) → ℕ
count_at event at = cond (ltb (length event) 6) 0 (at_most65 (u16_at event at))

-- the first n inputs, zeros where the event has no more
abbrev pub first_inputs : List ℕ → (n : ℕ) → List ℤ
first_inputs event n = numbers_from (drop 6 event) 0 n

-- the call that is made: the inputs that it counts, and a slice of sevens
abbrev pub call_of : List ℕ → Call
call_of event = record { inputs = first_inputs event (count_at event 2); slice = replicate (count_at event 4) (pos 7) }

-- a trial or the old call
abbrev pub call_event : (is_trial : Bool) → Call → Event
call_event is_trial c = cond is_trial (trial c) (old_call c)

-- the file that is begun on
abbrev pub file_of : List ℕ → List ℕ
file_of event = take (u16_at event 4) (drop 6 event)

unfoldable pub event_of : List ℕ → Event
event_of event =
    cond (eqb (kind_of event) 3) (beginning (file_of event))
    (cond (eqb (kind_of event) 2) commit
    (call_event (eqb (kind_of event) 1) (call_of event)))

-- the event, once its kind is told
abbrev pub event_by : Kind → List ℕ → Event
event_by OldCall event = old_call (call_of event)
event_by Trial event = trial (call_of event)
event_by Commit event = commit
event_by Beginning event = beginning (file_of event)

-- a beginning has its counts, with its file after them
abbrev pub IsLong : Kind → List ℕ → Type 0
IsLong OldCall event = Unit {0}
IsLong Trial event = Unit {0}
IsLong Commit event = Unit {0}
IsLong Beginning event = 6 ≤ length event

-- what a trial, a commit or an old call gives and shows: the session after it, and the line of its answer and slice in a buffer
pub record ShownOf (s : Session) (e : Event) (next : Session) (size : ℕ) (old new : List ℕ) : Type 0 where
  pub moves : next ≡ after_event s e
  pub past : size ≡ length (call_line (event_answer s e) (lent_after s e))
  pub line : new ≡ overwritten (call_line (event_answer s e) (lent_after s e)) old

-- the events of a pass file in turn, found in at most so many turns
unfoldable pub events_within : (turns : ℕ) → List ℕ → List Event
events_within zero events = []
events_within (suc turns) events =
    cond (ltb 0 (first_size events))
    (event_of (take (first_size events) events) ∷ events_within turns (drop (first_size events) events))
    []

-- a turn leaves fewer bytes, so that as many turns as bytes are enough; a cut-off last event is ignored
unfoldable pub events_of : List ℕ → List Event
events_of events = events_within (length events) events
