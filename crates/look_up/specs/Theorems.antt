-- What is proved of look-ups, stated without the proofs.
use Rattle.std.specs.Prelude.{◌≡◌, ◌⊎◌, ℕ, ◌<◌, ◌≤◌, Bool, false, List, map, ℤ, length}
use Rattle.answers.specs.declared.Place.{Place}
use Rattle.answers.specs.declared.Place.TheVariants.{Record as AtRecord}
use Rattle.answers.specs.Answer.{accepted, refused}
use Rattle.answers.specs.declared.NodeValues.{NodeValues}
use Rattle.node.specs.declared.equation.Equation.{Equation}
use Rattle.node.specs.Equations.{equation_at}
use Rattle.node.specs.Inputs.{input_count}
use Rattle.node.specs.Layout.{streams_of}
use Rattle.node.specs.Reads.{All, reads}
use Rattle.node.specs.Verdict.{verdict_of}
use Rattle.streams.specs.Solutions.{Streams}
use Rattle.streams.specs.Values.{values_in}
use Rattle.histories.specs.History.{inputs_at}
use Rattle.histories.specs.Theorems.{TypedHistory, SolvesHistory}
use Rattle.session.specs.declared.Session.{Session}
use Rattle.session.specs.Events.{Event, Run, begun_run, runs}
use Rattle.session.specs.Lists.{Answered, call}
use Rattle.session.specs.Records.{begun_of}
use Rattle.look_up.specs.Visits.{visits, visit_at, chooses}
use Rattle.look_up.specs.Visited.{VisitedInside, VisitedOutside}
use Rattle.look_up.specs.LookUp.{look_up_of}

-- "and all operands of others": what an operator but 11, 12 and 13 visits is all that its row reads, at the same instant
abbrev pub AllOperands : Type 0
AllOperands =
    (e : Equation) (t : ℕ) (holds : Bool) → chooses e ≡ false
    → visits e t holds ≡ map (λ r. visit_at t r.stream) (reads e)

-- a look-up that is refused with 34 or not at all: of an accepted node, a typed "history of up to 16 instants", and a stream and an
-- instant in it
pub record Asked (file : List ℕ) (count : ℕ) (inputs : List ℤ) (stream instant : ℕ) : Type 0 where
  pub node : NodeValues
  pub accepts : verdict_of file ≡ accepted node
  pub typed : TypedHistory file count inputs
  pub short : count ≤ 16
  pub stream_in : stream < streams_of file
  pub instant_in : instant < count

-- "It gives 34, with the wanted record, just where a value so visited leaves the range; any value it gives is the defined one": in every
-- solution on inputs that start with the history. There is one
pub record LooksUp (file : List ℕ) (count : ℕ) (inputs : List ℤ) (stream instant : ℕ) : Type 0 where
  pub solved : (v : Streams) × SolvesHistory file count inputs v
  pub gives :
      (v : Streams) → SolvesHistory file count inputs v → VisitedInside (equation_at file) v instant stream
      → look_up_of file count inputs stream instant ≡ accepted (v instant stream)
  pub refuses :
      (v : Streams) → SolvesHistory file count inputs v → VisitedOutside (equation_at file) v instant stream
      → look_up_of file count inputs stream instant ≡ refused 34 (AtRecord stream)
  pub either :
      (v : Streams) → SolvesHistory file count inputs v
      → VisitedInside (equation_at file) v instant stream ⊎ VisitedOutside (equation_at file) v instant stream

-- the look-ups that answer a value or 34 are just these
pub record LookUpsExact : Type 0 where
  pub looks_up : (file : List ℕ) (count : ℕ) (inputs : List ℤ) (stream instant : ℕ) → Asked file count inputs stream instant → LooksUp file count inputs stream instant
  pub asked : (file : List ℕ) (count : ℕ) (inputs : List ℤ) (stream instant : ℕ) (x : ℤ) → look_up_of file count inputs stream instant ≡ accepted x → Asked file count inputs stream instant
  pub asked_34 : (file : List ℕ) (count : ℕ) (inputs : List ℤ) (stream instant : ℕ) (place : Place) → look_up_of file count inputs stream instant ≡ refused 34 place → Asked file count inputs stream instant

-- "It agrees with the session on each instant that the session reaches": a history that starts with the inputs of answered calls 0 to
-- `instant` has there the value that the call left in its slice
abbrev pub Agrees : (file : List ℕ) → (done : List Answered) → Type 0
Agrees file done =
    (count : ℕ) (inputs : List ℤ) (stream instant : ℕ) → Asked file count inputs stream instant
    → instant < length done
    → ((t : ℕ) → t ≤ instant → inputs_at (input_count file) inputs t ≡ (call done t).inputs)
    → look_up_of file count inputs stream instant ≡ accepted (values_in (call done instant).values stream)

-- the commits of a run, and those before an answered trial with the trial
pub record RunAgrees (r : Run) : Type 0 where
  pub commits : Agrees r.node r.done
  pub trials : All (Agrees r.node) r.tried

-- whatever the events of a session
abbrev pub AgreesWithSessions : Type 0
AgreesWithSessions =
    (file : List ℕ) (node : NodeValues) → verdict_of file ≡ accepted node
    → (before : Session) (events : List Event)
    → All RunAgrees (runs (begun_of file before) (begun_run file) events)
