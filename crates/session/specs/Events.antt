-- Lists of all calls on a session: "Demand 3's lists then hold trials and commits as well, refused ones too", and here beginnings.
use Rattle.std.specs.Prelude.{ℕ, List, [], ◌∷◌, ◌++◌, ℤ, length, Err, Ok}
use Rattle.answers.specs.Answer.{Answer, accepted, if_accepted}
use Rattle.answers.specs.declared.NodeValues.{NodeValues}
use Rattle.node.specs.Verdict.{verdict_of}
use Rattle.session.specs.declared.Session.{Session}
use Rattle.session.specs.Instants.{trial_of, commit_answer, commit_of}
use Rattle.session.specs.Lists.{Call, Answered, answer_to, after, slice_after, told}
use Rattle.session.specs.Records.{begun_of}

-- a call on the record, with what it is given as it stood at its entry
pub data Event : Type 0 where
  beginning : (file : List ℕ) → Event
  trial : Call → Event
  commit : Event
  old_call : Call → Event

-- a beginning's answer without the values that it carries
abbrev pub begun_answer : Answer NodeValues → Answer (Unit {0})
begun_answer (Ok v) = accepted tt
begun_answer (Err r) = Err r

abbrev pub event_answer : Session → Event → Answer (Unit {0})
event_answer s (beginning file) = begun_answer (verdict_of file)
event_answer s (trial c) = answer_to s c
event_answer s commit = commit_answer s
event_answer s (old_call c) = answer_to s c

-- the record that it leaves
abbrev pub after_event : Session → Event → Session
after_event s (beginning file) = begun_of file s
after_event s (trial c) = trial_of s c.inputs (length c.slice)
after_event s commit = commit_of s
after_event s (old_call c) = after s c

-- the slice that it is lent, if any, at its entry and at its exit
abbrev pub lent_to : Event → List ℤ
lent_to (beginning file) = []
lent_to (trial c) = c.slice
lent_to commit = []
lent_to (old_call c) = c.slice

abbrev pub lent_after : Session → Event → List ℤ
lent_after s (beginning file) = []
lent_after s (trial c) = slice_after s c
lent_after s commit = []
lent_after s (old_call c) = slice_after s c

-- the trial that is held
pub data Trial : Type 0 where
  none : Trial
  some : Answered → Trial

-- What was answered since an answered beginning, on its file. "01's t there counts answered commits, the old call's too, and commit t's
-- inputs and numbers are its trial's": `done` has these. "an answered trial after t such commits is judged as call t, on their inputs
-- and its own": for each answered trial, the old call's too, `tried` has those commits and then the trial.
pub record Run : Type 0 where
  pub node : List ℕ
  pub done : List Answered
  pub tried : List (List Answered)
  pub held : Trial

abbrev pub begun_run : (file : List ℕ) → Run
begun_run file = record { node = file; done = []; tried = []; held = none }

abbrev pub trying : Run → Answered → Run
trying r a = record { node = r.node; done = r.done; tried = r.tried ++ ((r.done ++ (a ∷ [])) ∷ []); held = some a }

abbrev pub trial_in : Trial → List Answered
trial_in none = []
trial_in (some a) = a ∷ []

abbrev pub committing : Run → Run
committing r = record { node = r.node; done = r.done ++ trial_in r.held; tried = r.tried; held = none }

-- the run that an event leaves, by its answer; the old call is a trial and its commit
abbrev pub run_after : Session → Run → Event → Run
run_after s r (beginning file) = if_accepted (verdict_of file) (begun_run file) r
run_after s r (trial c) = if_accepted (answer_to s c) (trying r (told s c)) r
run_after s r commit = if_accepted (commit_answer s) (committing r) r
run_after s r (old_call c) = if_accepted (answer_to s c) (committing (trying r (told s c))) r

-- the run that an event ends: that before an answered beginning
abbrev pub ended : Run → Event → List Run
ended r (beginning file) = if_accepted (verdict_of file) (r ∷ []) []
ended r (trial c) = []
ended r commit = []
ended r (old_call c) = []

-- the record and the run after a list of events, and all its runs, each as it was left
unfoldable pub after_events : Session → List Event → Session
after_events s [] = s
after_events s (e ∷ es) = after_events (after_event s e) es

unfoldable pub last_run : Session → Run → List Event → Run
last_run s r [] = r
last_run s r (e ∷ es) = last_run (after_event s e) (run_after s r e) es

unfoldable pub runs : Session → Run → List Event → List Run
runs s r [] = r ∷ []
runs s r (e ∷ es) = ended r e ++ runs (after_event s e) (run_after s r e) es
