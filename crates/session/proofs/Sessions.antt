-- Every list of events from an answered beginning shows the solutions' values, and every event after it gets the answer that they give.
-- Assumes nothing.
use mathlib.Core.Path.{◌≡◌, refl, sym, subst}
use mathlib.Core.List.{List, [], ◌∷◌}
use Prim.Native.Nat.{ℕ}
use Rattle.answers.specs.declared.Place.{Place}
use Rattle.answers.specs.declared.Place.TheVariants.{File}
use Rattle.answers.specs.Answer.{Answer, accepted, refused, if_accepted}
use Rattle.answers.specs.declared.NodeValues.{NodeValues}
use Rattle.answers.specs.Checks.{check}
use Rattle.node.specs.Reads.{All}
use Rattle.node.specs.Verdict.{verdict_of}
use Rattle.node.proofs.Needs.{all_append}
use Rattle.session.specs.declared.Session.{Session}
use Rattle.session.specs.Events.{Event, beginning, trial, commit, old_call, begun_answer, event_answer, after_event, lent_to, lent_after, Trial, none, some, Run, begun_run, run_after, ended, after_events, last_run, runs}
use Rattle.session.specs.Instants.{commit_answer}
use Rattle.session.specs.Lists.{Call, Answered}
use Rattle.session.specs.Records.{begun, begun_of}
use Rattle.session.specs.Theorems.{Exact, RunShows, is_held, ExactNext, SessionsExact}
use Rattle.session.proofs.Answering.{not_answered, refused_keeps, commit_by, commit_keeps}
use Rattle.session.proofs.CallAnswers.{answer_given_is}
use Rattle.session.proofs.JustBegun.{begun_is, begun_runs}
use Rattle.session.proofs.Judging.{solved_on}
use Rattle.session.proofs.Standing.{Standing, TrialStands, RunStands}
use Rattle.session.proofs.Steps.{event_runs}
use Rattle.std.specs.Prelude.{Err, Ok}

-- where a session stands, every call is exact
pub standing_exact : (file : List ℕ) {node : NodeValues} → verdict_of file ≡ accepted node → (done : List Answered) (s : Session) → Standing file done s → (c : Call) → Exact file s done c
standing_exact file e done s stands c =
    record {
      answers = answer_given_is file e c done s stands;
      judged = solved_on file e done stands.shows.typed c.inputs;
      keeps = λ number place f. let kept = refused_keeps s c.inputs c.slice f in (kept.1, kept.2);
    }

-- a refused event keeps record and slice
begun_keeps : (file : List ℕ) (s : Session) (number : ℕ) (place : Place) → begun_answer (verdict_of file) ≡ refused number place → begun_of file s ≡ s
unfolding begun_of
begun_keeps file s number place = go (verdict_of file)
  where
    go : (a : Answer NodeValues) → begun_answer a ≡ refused number place → if_accepted a (begun file) s ≡ s
    go (Ok node) e = not_answered (sym e)
    go (Err r) e = refl

event_keeps : (s : Session) (e : Event) (number : ℕ) (place : Place) → event_answer s e ≡ refused number place → (after_event s e ≡ s) × (lent_after s e ≡ lent_to e)
event_keeps s (beginning file) number place e = (begun_keeps file s number place e, refl)
event_keeps s (trial c) number place e = let kept = refused_keeps s c.inputs c.slice e in (kept.0, kept.2)
event_keeps s commit number place e = (sym (commit_keeps s e), refl)
event_keeps s (old_call c) number place e = let kept = refused_keeps s c.inputs c.slice e in (kept.1, kept.2)

module _ (r : Run) (s : Session) (run : RunStands r s) where
  pub run_shows : RunShows r
  run_shows = record { commits = run.stands.shows; trials = run.trials }

  commit_exact : commit_answer s ≡ check (is_held r.held) 35 File (accepted tt)
  commit_exact = go r.held run.held
    where
      go : (t : Trial) → TrialStands r.node r.done s t → commit_answer s ≡ check (is_held t) 35 File (accepted tt)
      go none free = sym (commit_by s run.stands.node free)
      go (some a) kept = sym (commit_by s run.stands.node kept.held)

  pub run_exact : ExactNext s r
  run_exact =
      record {
        calls = standing_exact r.node run.accepts r.done s run.stands;
        commits = commit_exact;
        keeps = event_keeps s;
      }

  ended_shows : (e : Event) → All RunShows (ended r e)
  ended_shows (beginning file) = go (verdict_of file)
    where
      go : (a : Answer NodeValues) → All RunShows (if_accepted a (r ∷ []) [])
      go (Ok node) = (run_shows, tt)
      go (Err r) = tt
  ended_shows (trial c) = tt
  ended_shows commit = tt
  ended_shows (old_call c) = tt

-- a list of events keeps what stands, and all its runs show what they have to
pub events_run : (events : List Event) (r : Run) (s : Session) → RunStands r s → RunStands (last_run s r events) (after_events s events)
unfolding last_run after_events
events_run [] r s run = run
events_run (e ∷ es) r s run = events_run es (run_after s r e) (after_event s e) (event_runs r s run e)

all_show : (events : List Event) (r : Run) (s : Session) → RunStands r s → All RunShows (runs s r events)
unfolding runs
all_show [] r s run = (run_shows r s run, tt)
all_show (e ∷ es) r s run =
    all_append RunShows (ended r e) (runs (after_event s e) (run_after s r e) es) (ended_shows r s run e)
    (all_show es (run_after s r e) (after_event s e) (event_runs r s run e))

pub sessions_exact : SessionsExact
sessions_exact file node e before events =
    subst (λ (s : Session). All RunShows (runs s (begun_run file) events) × ExactNext (after_events s events) (last_run s (begun_run file) events)) (sym (begun_is file e before))
    (let run = begun_runs file e in
    (all_show events (begun_run file) (begun file) run, run_exact (last_run (begun file) (begun_run file) events) (after_events (begun file) events) (events_run events (begun_run file) (begun file) run)))

-- .. the run in which the list ends among them
pub last_shows : (file : List ℕ) {node : NodeValues} → verdict_of file ≡ accepted node → (before : Session) (events : List Event) → RunShows (last_run (begun_of file before) (begun_run file) events)
last_shows file e before events =
    subst (λ (s : Session). RunShows (last_run s (begun_run file) events)) (sym (begun_is file e before))
    (run_shows (last_run (begun file) (begun_run file) events) (after_events (begun file) events) (events_run events (begun_run file) (begun file) (begun_runs file e)))
