-- The outcomes of a trial, of a commit and of the old call, which "means a trial and its commit": answer, record and slice. "Every
-- refusal leaves session and slices as before the call."
use Rattle.std.specs.Prelude.{ℕ, List, Bool, not, eqb, ℤ, pos, length, replicate, Option}
use Rattle.answers.specs.declared.Place.TheVariants.{File, Record as AtRecord}
use Rattle.answers.specs.Answer.{Answer, accepted, if_accepted}
use Rattle.answers.specs.Checks.{check, check_all, lowest}
use Rattle.node.specs.Inputs.{input_count}
use Rattle.node.specs.Layout.{streams_of}
use Rattle.node.specs.Reads.{order_of}
use Rattle.streams.specs.Instant.{input_fits, instant_of, value_inside, first_along, filled}
use Rattle.session.specs.declared.Session.{Session}
use Rattle.session.specs.Records.{held_file, unstarted, untried, holds_node}

-- all streams of the held node, worked out
abbrev pub worked_out : Session → (inputs : List ℤ) → List ℤ
worked_out s inputs = instant_of (held_file s) inputs (unstarted s) s.last

-- 30 to 34 in order, from what each test gives
abbrev pub in_order : (node count size : Bool) → (input value : Option ℕ) → Answer (Unit {0})
in_order node count size input value =
    check node 30 File
    (check count 31 File
    (check size 32 File
    (check_all input 33 AtRecord
    (check_all value 34 AtRecord
    (accepted tt)))))

-- the answer to a trial and to the old call, for a slice of `room` values
unfoldable pub answer_of : Session → (inputs : List ℤ) → (room : ℕ) → Answer (Unit {0})
answer_of s inputs room =
    in_order
    (holds_node s)
    (eqb (length inputs) (input_count (held_file s)))
    (eqb room (streams_of (held_file s)))
    (lowest (input_fits (held_file s) inputs) (streams_of (held_file s)))
    (first_along (order_of (held_file s)) (value_inside (worked_out s inputs)))

-- what the slice holds after either
unfoldable pub slice_of : Session → (inputs slice : List ℤ) → List ℤ
slice_of s inputs slice = if_accepted (answer_of s inputs (length slice)) (worked_out s inputs) slice

-- the record with a trial, that "keeps the values in the session without advancing"
abbrev pub with_trial : Session → (values : List ℤ) → Session
with_trial s values =
    record { length = s.length; last = s.last; trial = values; file = s.file; started = s.started; held = 1; spare = replicate 6 0 }

-- an answered trial's: "A second trial replaces the first"
abbrev pub tried : Session → (inputs : List ℤ) → Session
tried s inputs = with_trial s (filled 64 (pos 0) (worked_out s inputs))

-- "and a refused trial keeps the earlier one"
unfoldable pub trial_of : Session → (inputs : List ℤ) → (room : ℕ) → Session
trial_of s inputs room = if_accepted (answer_of s inputs room) (tried s inputs) s

-- the record past instant 0, with these as its last values, and no trial
abbrev pub moved_to : Session → (values : List ℤ) → Session
moved_to s values =
    record { length = s.length; last = values; trial = replicate 64 (pos 0); file = s.file; started = 1; held = 0; spare = replicate 6 0 }

-- an answered commit's: it "advances to the last trial and then, like beginning, holds none"
abbrev pub moved_on : Session → Session
moved_on s = moved_to s s.trial

-- "35, commit with no trial held, after 30"
unfoldable pub commit_answer : Session → Answer (Unit {0})
commit_answer s =
    check (holds_node s) 30 File
    (check (not (untried s)) 35 File
    (accepted tt))

unfoldable pub commit_of : Session → Session
commit_of s = if_accepted (commit_answer s) (moved_on s) s

-- the old call's: "a trial and its commit"
unfoldable pub session_of : Session → (inputs : List ℤ) → (room : ℕ) → Session
session_of s inputs room = if_accepted (answer_of s inputs room) (moved_on (tried s inputs)) s
