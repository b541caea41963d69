-- Each event keeps what stands: an answered trial is held, an answered commit is one commit more, an answered beginning is a run of its
-- own, and a refused event leaves all as it was.
-- Assumes nothing.
use mathlib.Core.Path.{◌≡◌, refl, sym, ◌∙◌, ap}
use mathlib.Core.Bool.{false, true≢false}
use mathlib.Core.List.{List, [], ◌∷◌, ◌++◌}
use Prim.Native.Nat.{ℕ, suc, ◌<◌}
use native.Mathlib.Nat.{le_refl}
use native.Mathlib.Omega.{arith}
use lib.IntN.{ℤ, pos}
use lib.ListN.{length, get_or-append}
use Rattle.integers.specs.Range.{inside}
use Rattle.answers.specs.Answer.{Answer, accepted, if_accepted}
use Rattle.answers.specs.declared.NodeValues.{NodeValues}
use Rattle.node.specs.Layout.{streams_of}
use Rattle.node.specs.Verdict.{verdict_of}
use Rattle.node.proofs.Needs.{all_append}
use Rattle.streams.specs.Instant.{filled}
use Rattle.streams.specs.Nodes.{node_of}
use Rattle.streams.specs.Solutions.{Streams, is_first, Solution}
use Rattle.streams.specs.Typing.{Inputs, TypedInstant}
use Rattle.streams.specs.Values.{values_in}
use Rattle.session.specs.declared.Session.{Session}
use Rattle.session.specs.Events.{Event, beginning, trial, commit, old_call, after_event, Trial, none, some, trial_in, Run, begun_run, trying, committing, run_after}
use Rattle.session.specs.Instants.{worked_out, slice_of, tried, trial_of, moved_on, commit_answer, commit_of, session_of}
use Rattle.session.specs.Lists.{Call, Answered, answer_to, slice_after, told}
use Rattle.session.specs.Records.{begun, begun_of, untried}
use Rattle.session.specs.Theorems.{StartsWith, Shows}
use Rattle.session.proofs.Answering.{commit_held}
use Rattle.session.proofs.CallAnswers.{answered_typed, answered_inside}
use Rattle.session.proofs.JustBegun.{begun_runs}
use Rattle.session.proofs.Showing.{more_length, call_own, starts_before, shows_more}
use Rattle.session.proofs.Standing.{Standing, HoldsTrial, TrialStands, RunStands, worked_out_length, worked_out_is}
use Rattle.session.proofs.TypedRecords.{trial_holds, commit_holds}
use Rattle.std.specs.Prelude.{Err, Ok}

module _ (file : List ℕ) {node : NodeValues} (e : verdict_of file ≡ accepted node) (done : List Answered) (s : Session) (stands : Standing file done s) where
  -- ---- an answered trial
  module _ (c : Call) (is_answered : answer_to s c ≡ accepted tt) where
    typed : TypedInstant (node_of file) c.inputs
    typed = answered_typed file e c done s stands is_answered

    slice_is : slice_after s c ≡ worked_out s c.inputs
    unfolding slice_of
    slice_is = rw is_answered

    -- the trial's values are those of the slice ..
    trial_is : (i : ℕ) → i < streams_of file → values_in (filled 64 (pos 0) (worked_out s c.inputs)) i ≡ values_in (worked_out s c.inputs) i
    trial_is i l = get_or-append (worked_out s c.inputs) _ (pos 0) i (omega (arith, worked_out_length file e done s stands c.inputs))

    -- .. and these are the solution's
    worked_is : (u : Inputs) → StartsWith (done ++ (told s c ∷ [])) (suc (length done)) u → (v : Streams) → Solution (node_of file) u v → (i : ℕ) → i < streams_of file → values_in (worked_out s c.inputs) i ≡ v (length done) i
    worked_is u starts v solves =
        worked_out_is file e done s stands c.inputs u
        (starts_before done (told s c) (length done) (le_refl (length done)) u (λ j m. starts j (omega arith)))
        (starts (length done) (omega arith) ∙ ap (λ (x : Answered). x.inputs) (call_own done (told s c)))
        v solves

    trial_shows : Shows file (done ++ (told s c ∷ []))
    trial_shows =
        shows_more done (told s c) file e stands.shows typed
        (ap length slice_is ∙ worked_out_length file e done s stands c.inputs)
        (λ i l. ap (λ (k : List ℤ). inside (values_in k i)) slice_is ∙ answered_inside file e c done s stands is_answered i l)
        (λ u of_u starts v solves i l. ap (λ (k : List ℤ). values_in k i) slice_is ∙ worked_is u starts v solves i l)

    trial_held : HoldsTrial file done (tried s c.inputs) (told s c)
    trial_held =
        record {
          held = refl;
          values = λ u starts v solves i l. trial_is i l ∙ worked_is u starts v solves i l;
          shows = trial_shows;
        }

    -- the session stays where it stood
    trial_stands : Standing file done (tried s c.inputs)
    trial_stands =
        record {
          node = trial_holds s c is_answered;
          holds = stands.holds;
          first = stands.first;
          last = stands.last;
          shows = stands.shows;
        }

  -- ---- an answered commit
  module _ (a : Answered) (kept : HoldsTrial file done s a) where
    commit_stands : Standing file (done ++ (a ∷ [])) (moved_on s)
    commit_stands =
        record {
          node = commit_holds s stands.node kept.held;
          holds = stands.holds;
          first = ap is_first (more_length done a);
          last = λ u starts v solves.
              rw (more_length done a) (λ past i l. kept.values u (rw (more_length done a) at starts) v solves i l);
          shows = kept.shows;
        }

-- ---- the same of runs

module _ (r : Run) (s : Session) (run : RunStands r s) where
  trial_runs : (c : Call) → answer_to s c ≡ accepted tt → RunStands (trying r (told s c)) (tried s c.inputs)
  trial_runs c is_answered =
      let held = trial_held r.node run.accepts r.done s run.stands c is_answered in
      record {
        node = run.node;
        accepts = run.accepts;
        stands = trial_stands r.node run.accepts r.done s run.stands c is_answered;
        trials = all_append (Shows r.node) r.tried ((r.done ++ (told s c ∷ [])) ∷ []) run.trials (held.shows, tt);
        held = held;
      }

  commit_runs : untried s ≡ false → RunStands (committing r) (moved_on s)
  commit_runs held = go r.held run.held
    where
      go : (t : Trial) → TrialStands r.node r.done s t → RunStands (record { node = r.node; done = r.done ++ trial_in t; tried = r.tried; held = none }) (moved_on s)
      go none free = absurd (true≢false (sym free ∙ held))
      go (some a) kept =
          record {
            node = run.node;
            accepts = run.accepts;
            stands = commit_stands r.node run.accepts r.done s run.stands a kept;
            trials = run.trials;
            held = refl;
          }

module _ (r : Run) (s : Session) (run : RunStands r s) where
  -- each event keeps what stands, in the run that it leaves
  pub event_runs : (e : Event) → RunStands (run_after s r e) (after_event s e)
  unfolding begun_of trial_of commit_of session_of
  event_runs (beginning file) = go (verdict_of file) refl
    where
      go : (a : Answer NodeValues) → verdict_of file ≡ a → RunStands (if_accepted a (begun_run file) r) (if_accepted a (begun file) s)
      go (Ok node) e = begun_runs file e
      go (Err r) e = run
  event_runs (trial c) = go (answer_to s c) refl
    where
      go : (a : Answer (Unit {0})) → answer_to s c ≡ a → RunStands (if_accepted a (trying r (told s c)) r) (if_accepted a (tried s c.inputs) s)
      go (Ok a) e = trial_runs r s run c e
      go (Err r) e = run
  event_runs commit = go (commit_answer s) refl
    where
      go : (a : Answer (Unit {0})) → commit_answer s ≡ a → RunStands (if_accepted a (committing r) r) (if_accepted a (moved_on s) s)
      go (Ok a) e = commit_runs r s run (commit_held s e)
      go (Err r) e = run
  event_runs (old_call c) = go (answer_to s c) refl
    where
      go : (a : Answer (Unit {0})) → answer_to s c ≡ a → RunStands (if_accepted a (committing (trying r (told s c))) r) (if_accepted a (moved_on (tried s c.inputs)) s)
      go (Ok a) e = commit_runs (trying r (told s c)) (tried s c.inputs) (trial_runs r s run c e) refl
      go (Err r) e = run
