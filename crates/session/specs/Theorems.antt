-- What is proved of every list of events from an answered beginning, stated without the proofs (demand 2): "where demand 2 says answered
-- so far, it now means committed". No certificate is needed.
use Rattle.std.specs.Prelude.{ℕ, suc, ◌<◌, ◌≡◌, Bool, true, false, not, ◌||◌, List, [], ◌∷◌, ◌++◌, map, eqb, ℤ, length}
use Rattle.integers.specs.Range.{inside}
use Rattle.answers.specs.declared.Place.{Place}
use Rattle.answers.specs.declared.Place.TheVariants.{File, Record as AtRecord}
use Rattle.answers.specs.Answer.{Answer, accepted, refused}
use Rattle.answers.specs.declared.NodeValues.{NodeValues}
use Rattle.answers.specs.Checks.{check, check_all, lowest}
use Rattle.node.specs.Equations.{type_at}
use Rattle.node.specs.Inputs.{is_input, input_count}
use Rattle.node.specs.Layout.{streams_of}
use Rattle.node.specs.Reads.{All, order_of}
use Rattle.node.specs.Verdict.{verdict_of}
use Rattle.streams.specs.Instant.{first_along}
use Rattle.streams.specs.Nodes.{node_of}
use Rattle.streams.specs.Solutions.{Streams, Solution}
use Rattle.streams.specs.Typing.{Inputs, TypedInstant, TypedInputs, fits_test, given}
use Rattle.streams.specs.Values.{Values, values_in}
use Rattle.session.specs.declared.Session.{Session}
use Rattle.session.specs.Events.{Event, trial, commit, event_answer, after_event, lent_to, lent_after, Trial, none, some, Run, begun_run, after_events, last_run, runs}
use Rattle.session.specs.Instants.{commit_answer}
use Rattle.session.specs.Lists.{Call, Answered, answer_to, after, slice_after, after_all, answered, call}
use Rattle.session.specs.Records.{begun_of}

-- endless inputs start with those of the first n answered calls
abbrev pub StartsWith : List Answered → (n : ℕ) → Inputs → Type 0
StartsWith done n u = (j : ℕ) → j < n → u j ≡ (call done j).inputs

-- v is a solution on endless typed inputs that start with those of all answered calls
pub record Solves (file : List ℕ) (done : List Answered) (v : Streams) : Type 0 where
  pub inputs : Inputs
  pub typed : TypedInputs (node_of file) inputs
  pub starts : StartsWith done (length done) inputs
  pub solves : Solution (node_of file) inputs v

-- "For all endless inputs that start with those of answered calls 0 to t, as they stood at each call's entry, answered call t,
-- counted from 0, leaves as number i of its slice the value of stream i at instant t in the solution on them": one claim about the
-- list as a whole. There are such inputs, with a solution
pub record Shows (file : List ℕ) (done : List Answered) : Type 0 where
  pub typed : (t : ℕ) → t < length done → TypedInstant (node_of file) (call done t).inputs
  pub sized : (t : ℕ) → t < length done → length (call done t).values ≡ streams_of file
  -- none is past 64 signed bits
  pub ranged : (t : ℕ) → t < length done → (i : ℕ) → i < streams_of file → inside (values_in (call done t).values i) ≡ true
  pub solved : (v : Streams) × Solves file done v
  pub shown :
      (t : ℕ) → t < length done
      → (u : Inputs) → TypedInputs (node_of file) u → StartsWith done (suc t) u
      → (v : Streams) → Solution (node_of file) u v
      → (i : ℕ) → i < streams_of file → values_in (call done t).values i ≡ v t i

-- 33 in its own words: stream i is no input, or its input fits its type
abbrev pub input_typed : (file : List ℕ) → (inputs : List ℤ) → (i : ℕ) → Bool
input_typed file inputs i = not (is_input file i) || fits_test (type_at file i) (given (node_of file) inputs i)

-- the whole answer to a call at an instant whose values are these: "30 never refuses one", then 31 to 34 in order
abbrev pub answer_given : (file : List ℕ) → Call → Values → Answer (Unit {0})
answer_given file c values =
    check (eqb (length c.inputs) (input_count file)) 31 File
    (check (eqb (length c.slice) (streams_of file)) 32 File
    (check_all (lowest (input_typed file c.inputs) (streams_of file)) 33 AtRecord
    (check_all (first_along (order_of file) (λ i. inside (values i))) 34 AtRecord
    (accepted tt))))

-- v is a solution on the inputs of the answered calls, of commits that is, and then the call's own
abbrev pub Judged : (file : List ℕ) → (done : List Answered) → Call → (v : Streams) → Type 0
Judged file done c v = (of_v : Solves file done v) × (of_v.inputs (length done) ≡ c.inputs)

-- a call after others, from a just begun session
pub record Exact (file : List ℕ) (s : Session) (done : List Answered) (c : Call) : Type 0 where
  -- the answer is the one for such a solution's values; where the call's inputs are not typed, none is needed
  pub answers : (v : Streams) → (TypedInstant (node_of file) c.inputs → Judged file done c v) → answer_to s c ≡ answer_given file c (v (length done))
  -- there is such a solution
  pub judged : TypedInstant (node_of file) c.inputs → (v : Streams) × Judged file done c v
  -- "Every refusal leaves session and slices as before the call."
  pub keeps : (number : ℕ) (place : Place) → answer_to s c ≡ refused number place → (after s c ≡ s) × (slice_after s c ≡ c.slice)

-- what a run has shown: "Values along the committed instants are those of the equations on the committed inputs. A trial's values are
-- those on the committed inputs and its own"
pub record RunShows (r : Run) : Type 0 where
  pub commits : Shows r.node r.done
  pub trials : All (Shows r.node) r.tried

abbrev pub is_held : Trial → Bool
is_held none = false
is_held (some a) = true

-- any next event on a session in a run. A beginning's answer is its file's verdict, and 30 never refuses
pub record ExactNext (s : Session) (r : Run) : Type 0 where
  -- a trial and the old call
  pub calls : (c : Call) → Exact r.node s r.done c
  -- 35 alone
  pub commits : commit_answer s ≡ check (is_held r.held) 35 File (accepted tt)
  -- "Every refusal leaves session and slices as before the call."
  pub keeps : (e : Event) (number : ℕ) (place : Place) → event_answer s e ≡ refused number place → (after_event s e ≡ s) × (lent_after s e ≡ lent_to e)

-- whatever bytes the file holds, whatever the record held before the beginning, whatever the events
abbrev pub SessionsExact : Type 0
SessionsExact =
    (file : List ℕ) (node : NodeValues) → verdict_of file ≡ accepted node
    → (before : Session) (events : List Event)
    → let s = begun_of file before in
    let r = begun_run file in
    All RunShows (runs s r events) × ExactNext (after_events s events) (last_run s r events)

-- the same of the old call alone
abbrev pub CallsExact : Type 0
CallsExact =
    (file : List ℕ) (node : NodeValues) → verdict_of file ≡ accepted node
    → (before : Session) (calls : List Call)
    → let s = begun_of file before in
    Shows file (answered s calls) × ((c : Call) → Exact file (after_all s calls) (answered s calls) c)

-- "The old call means a trial and its commit": on every record, where call c is answered, trials and then the trial of c and a commit
-- leave the record, and that trial the slice, which the old call leaves
pub record OneCall (s : Session) (trials : List Call) (c : Call) : Type 0 where
  pub record_same : after_events s (map trial trials ++ (trial c ∷ commit ∷ [])) ≡ after s c
  pub slice_same : slice_after (after_events s (map trial trials)) c ≡ slice_after s c

abbrev pub TrialsThenCommit : Type 0
TrialsThenCommit = (s : Session) (trials : List Call) (c : Call) → answer_to s c ≡ accepted tt → OneCall s trials c
