-- A look-up agrees with the session on each instant that the session reaches: all that is visited is of these instants, and the session
-- has answered them, so none of their values is outside.
-- Assumes nothing.
use mathlib.Core.Path.{◌≡◌, sym, ◌∙◌, ap}
use mathlib.Core.List.{List}
use Prim.Native.Nat.{ℕ, ◌<◌, ◌≤◌}
use native.Mathlib.Nat.{lt_of_le_of_lt, lt_of_lt_of_le, le_refl}
use native.Mathlib.Omega.{arith}
use lib.IntN.{ℤ}
use lib.ListN.{length}
use Rattle.integers.specs.Range.{inside}
use Rattle.answers.specs.Answer.{accepted}
use Rattle.node.specs.Equations.{equation_at}
use Rattle.node.specs.Inputs.{input_count}
use Rattle.node.specs.Layout.{streams_of}
use Rattle.streams.specs.Solutions.{Streams}
use Rattle.streams.specs.Values.{values_in}
use Rattle.streams.proofs.Reading.{all_map}
use Rattle.histories.specs.History.{inputs_at}
use Rattle.histories.specs.Theorems.{SolvesHistory}
use Rattle.session.specs.Events.{Run, begun_run, runs}
use Rattle.session.specs.Lists.{Answered, call}
use Rattle.session.specs.Records.{begun_of}
use Rattle.session.specs.Theorems.{Shows, RunShows}
use Rattle.session.proofs.Sessions.{sessions_exact}
use Rattle.look_up.specs.Visited.{VisitedInside}
use Rattle.look_up.specs.LookUp.{look_up_of}
use Rattle.look_up.specs.Theorems.{Asked, LooksUp, Agrees, RunAgrees, AgreesWithSessions}
use Rattle.look_up.proofs.LookUps.{looks_up}
use Rattle.look_up.proofs.Within.{within}

module _ (file : List ℕ) (done : List Answered) (shows : Shows file done) (count : ℕ) (inputs : List ℤ) (stream instant : ℕ) (asked : Asked file count inputs stream instant) (reached : instant < length done) (starts : (t : ℕ) → t ≤ instant → inputs_at (input_count file) inputs t ≡ (call done t).inputs) where
  exact : LooksUp file count inputs stream instant
  exact = looks_up file count inputs stream instant asked

  -- the answered calls show the values of the look-up's solution ..
  shown : (v : Streams) → SolvesHistory file count inputs v → (j r : ℕ) → j ≤ instant → r < streams_of file → values_in (call done j).values r ≡ v j r
  shown v solved j r l m =
      shows.shown j (lt_of_le_of_lt l reached) solved.endless solved.typed
      (λ i k. let e : i ≤ instant = omega (arith, l, k) in solved.starts i (lt_of_le_of_lt e asked.instant_in) ∙ starts i e)
      v solved.solves r m

  -- .. so these are inside
  inside_there : (v : Streams) → SolvesHistory file count inputs v → VisitedInside (equation_at file) v instant stream
  inside_there v solved j r visited =
      let d = within file asked.accepts v (lt_of_lt_of_le asked.instant_in asked.short) asked.stream_in visited in
      ap inside (sym (shown v solved j r d.0 d.1)) ∙ shows.ranged j (lt_of_le_of_lt d.0 reached) r d.1

  agrees_there : look_up_of file count inputs stream instant ≡ accepted (values_in (call done instant).values stream)
  agrees_there =
      let v = exact.solved.0 in
      let solved = exact.solved.1 in
      exact.gives v solved (inside_there v solved) ∙ ap accepted (sym (shown v solved instant stream (le_refl instant) asked.stream_in))

agrees : (file : List ℕ) (done : List Answered) → Shows file done → Agrees file done
agrees file done shows = agrees_there file done shows

run_agrees : (r : Run) → RunShows r → RunAgrees r
run_agrees r shows =
    record {
      commits = agrees r.node r.done shows.commits;
      trials = all_map (agrees r.node) r.tried shows.trials;
    }

pub agrees_with_sessions : AgreesWithSessions
agrees_with_sessions file node e before events =
    all_map run_agrees (runs (begun_of file before) (begun_run file) events) (sessions_exact file node e before events).0
