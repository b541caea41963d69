-- The old call. A list of it alone is one run, with an answered call a commit: so what holds of all lists holds of it. And "The old call
-- means a trial and its commit", on every record.
-- Assumes nothing.
use mathlib.Core.Path.{◌≡◌, refl, sym, ◌∙◌, ap, subst}
use mathlib.Core.List.{List, [], ◌∷◌, ◌++◌, map, append-nil, append_assoc}
use Prim.Native.Nat.{ℕ}
use lib.ListN.{length}
use Rattle.answers.specs.Answer.{Answer, accepted, if_accepted}
use Rattle.node.specs.Reads.{All}
use Rattle.session.specs.declared.Session.{Session}
use Rattle.session.specs.Events.{Event, old_call, Run, begun_run, trying, committing, run_after, after_events, last_run, runs}
use Rattle.session.specs.Instants.{worked_out, answer_of, slice_of, tried, trial_of, commit_of, session_of}
use Rattle.session.specs.Lists.{Call, Answered, answer_to, after, slice_after, told, after_all, answered}
use Rattle.session.specs.Records.{begun_of}
use Rattle.session.specs.Theorems.{Shows, Exact, RunShows, CallsExact, OneCall, TrialsThenCommit}
use Rattle.session.proofs.Answering.{answered_holds, commit_by}
use Rattle.session.proofs.Sessions.{sessions_exact}
use Rattle.session.proofs.TypedRecords.{trial_holds}
use Rattle.std.specs.Prelude.{Err, Ok}

-- ---- lists of the old call

abbrev pub old_calls : List Call → List Event
old_calls calls = map old_call calls

pub after_calls : (calls : List Call) (s : Session) → after_events s (old_calls calls) ≡ after_all s calls
unfolding after_events after_all
after_calls [] s = refl
after_calls (c ∷ cs) s = after_calls cs (after s c)

-- the commits of a list
done_more : (s : Session) (r : Run) (c : Call) → (run_after s r (old_call c)).done ≡ r.done ++ if_accepted (answer_to s c) (told s c ∷ []) []
done_more s r c = go (answer_to s c)
  where
    go : (a : Answer (Unit {0})) → (if_accepted a (committing (trying r (told s c))) r).done ≡ r.done ++ if_accepted a (told s c ∷ []) []
    go (Ok a) = refl
    go (Err refusal) = sym (append-nil r.done)

node_same : (s : Session) (r : Run) (c : Call) → (run_after s r (old_call c)).node ≡ r.node
node_same s r c = go (answer_to s c)
  where
    go : (a : Answer (Unit {0})) → (if_accepted a (committing (trying r (told s c))) r).node ≡ r.node
    go (Ok a) = refl
    go (Err r) = refl

pub calls_done : (calls : List Call) (s : Session) (r : Run) → (last_run s r (old_calls calls)).done ≡ r.done ++ answered s calls
unfolding last_run answered
calls_done [] s r = sym (append-nil r.done)
calls_done (c ∷ cs) s r =
    calls_done cs (after s c) (run_after s r (old_call c))
    ∙ ap (λ (l : List Answered). l ++ answered (after s c) cs) (done_more s r c)
    ∙ append_assoc r.done (if_accepted (answer_to s c) (told s c ∷ []) []) (answered (after s c) cs)

pub calls_node : (calls : List Call) (s : Session) (r : Run) → (last_run s r (old_calls calls)).node ≡ r.node
unfolding last_run
calls_node [] s r = refl
calls_node (c ∷ cs) s r = calls_node cs (after s c) (run_after s r (old_call c)) ∙ node_same s r c

-- .. in its only run
pub calls_run : (calls : List Call) (s : Session) (r : Run) → runs s r (old_calls calls) ≡ last_run s r (old_calls calls) ∷ []
unfolding runs last_run
calls_run [] s r = refl
calls_run (c ∷ cs) s r = calls_run cs (after s c) (run_after s r (old_call c))

-- so what is shown of a run, and of the next call, is shown of a list of the old call
module _ (file : List ℕ) (s : Session) (calls : List Call) where
  abbrev pub only : Run
  only = last_run s (begun_run file) (old_calls calls)

  pub only_run : (P : List ℕ → List Answered → Type 0) → P only.node only.done → P file (answered s calls)
  only_run P h =
      subst (λ (n : List ℕ). P n (answered s calls)) (calls_node calls s (begun_run file))
      (subst (P only.node) (calls_done calls s (begun_run file)) h)

  pub only_shown : All RunShows (runs s (begun_run file) (old_calls calls)) → RunShows only
  only_shown shown = (subst (All RunShows) (calls_run calls s (begun_run file)) shown).0

pub calls_exact : CallsExact
calls_exact file node e before calls =
    let s = begun_of file before in
    let exact = sessions_exact file node e before (old_calls calls) in (
      only_run file s calls Shows (only_shown file s calls exact.0).commits,
      λ c.
          only_run file s calls (λ n done. Exact n (after_all s calls) done c)
          (subst (λ (x : Session). Exact (only file s calls).node x (only file s calls).done c) (after_calls calls s) (exact.1.calls c)),
    )

-- ---- "The old call means a trial and its commit"

module _ (c : Call) where
  one_call : (s : Session) → answer_to s c ≡ accepted tt → commit_of (trial_of s c.inputs (length c.slice)) ≡ after s c
  unfolding trial_of commit_of session_of
  one_call s e = rw (e, sym (commit_by (tried s c.inputs) (trial_holds s c e) refl))

  -- a trial before it changes neither answer, record nor slice
  module _ (s : Session) (d : Call) where
    abbrev past : Session
    past = trial_of s d.inputs (length d.slice)

    by_trial : (P : Session → Type 0) → P s → (answer_to s d ≡ accepted tt → P (tried s d.inputs)) → P past
    unfolding trial_of
    by_trial P kept moved = go (answer_to s d) refl
      where
        go : (a : Answer (Unit {0})) → answer_to s d ≡ a → P (if_accepted a (tried s d.inputs) s)
        go (Ok a) e = moved e
        go (Err r) e = kept

    module _ (e : answer_to s d ≡ accepted tt) where
      tried_answer : answer_to (tried s d.inputs) c ≡ answer_to s c
      unfolding answer_of
      tried_answer = rw (trial_holds s d e, answered_holds s d.inputs (length d.slice) e) refl

      tried_slice : slice_after (tried s d.inputs) c ≡ slice_after s c
      unfolding slice_of
      tried_slice = ap (λ (a : Answer (Unit {0})). if_accepted a (worked_out s c.inputs) c.slice) tried_answer

      tried_record : answer_to s c ≡ accepted tt → after (tried s d.inputs) c ≡ after s c
      unfolding session_of
      tried_record f = rw (tried_answer ∙ f, f) refl

    same_answer : answer_to past c ≡ answer_to s c
    same_answer = by_trial (λ x. answer_to x c ≡ answer_to s c) refl tried_answer

    same_slice : slice_after past c ≡ slice_after s c
    same_slice = by_trial (λ x. slice_after x c ≡ slice_after s c) refl tried_slice

    same_record : answer_to s c ≡ accepted tt → after past c ≡ after s c
    same_record f = by_trial (λ x. after x c ≡ after s c) refl (λ e. tried_record e f)

  trials_before : (trials : List Call) (s : Session) → answer_to s c ≡ accepted tt → OneCall s trials c
  unfolding after_events
  trials_before [] s e = record { record_same = one_call s e; slice_same = refl }
  trials_before (d ∷ ds) s e =
      let rest = trials_before ds (past s d) (same_answer s d ∙ e) in
      record {
        record_same = rest.record_same ∙ same_record s d e;
        slice_same = rest.slice_same ∙ same_slice s d;
      }

pub trials_then_commit : TrialsThenCommit
trials_then_commit s trials c = trials_before c trials s
