-- What is proved of every listed node, stated without the proofs: "In a session whose int inputs have all been inside their ranges, no
-- instant is refused with 34 and each int value stays in its range."
use Rattle.std.specs.Prelude.{ℕ, ◌<◌, ◌≤◌, ◌≡◌, List, eqb, ℤ, ◌+ℤ◌, ◌-ℤ◌, ◌*ℤ◌, length, ◌≤ℤ◌}
use Rattle.integers.specs.Range.{lesser, greater}
use Rattle.answers.specs.declared.Place.{Place}
use Rattle.answers.specs.declared.Place.TheVariants.{File, Record as AtRecord}
use Rattle.answers.specs.Answer.{Answer, accepted, refused}
use Rattle.answers.specs.Checks.{check, check_all, lowest}
use Rattle.node.specs.declared.equation.StreamType.TheVariants.{Int as IntType}
use Rattle.node.specs.declared.equation.Equation.TheVariants.{Input}
use Rattle.node.specs.Equations.{type_at, equation_at}
use Rattle.node.specs.Inputs.{input_count}
use Rattle.node.specs.Layout.{streams_of}
use Rattle.node.specs.Reads.{All}
use Rattle.streams.specs.Nodes.{node_of}
use Rattle.streams.specs.Solutions.{Streams, Solution}
use Rattle.streams.specs.Typing.{Inputs, given}
use Rattle.streams.specs.Values.{Values, values_in}
use Rattle.session.specs.declared.Session.{Session}
use Rattle.session.specs.Events.{Event, Run, begun_run, after_events, last_run}
use Rattle.session.specs.Lists.{Call, Answered, answer_to, call}
use Rattle.session.specs.Records.{begun_of}
use Rattle.session.specs.Theorems.{input_typed}
use Rattle.ranges.specs.declared.table.Range.{Range}
use Rattle.ranges.specs.Listing.{listing_of}
use Rattle.ranges.specs.Results.{ResultsOf, sum_of, difference_of, multiple_of, lesser_of, greater_of}
use Rattle.ranges.specs.Table.{range_in, In}

-- a range that has a number: its ends are not "reversed"
abbrev pub NotReversed : Range → Type 0
NotReversed r = r.least ≤ℤ r.greatest

-- the ranges that 72 looks at are those of the operators' results
pub record ResultsAre : Type 0 where
  pub sum : (a b : Range) → NotReversed a → NotReversed b → ResultsOf (λ x y. x +ℤ y) a b (sum_of a b)
  pub difference : (a b : Range) → NotReversed a → NotReversed b → ResultsOf (λ x y. x -ℤ y) a b (difference_of a b)
  pub multiple : (k : ℤ) (a : Range) → NotReversed a → ResultsOf (λ x y. k *ℤ x) a a (multiple_of k a)
  pub lesser : (a b : Range) → NotReversed a → NotReversed b → ResultsOf lesser a b (lesser_of a b)
  pub greater : (a b : Range) → NotReversed a → NotReversed b → ResultsOf greater a b (greater_of a b)

-- an instant's "int inputs .. inside their ranges"
abbrev pub InputsInside : (file : List ℕ) → (table : List ℤ) → (inputs : List ℤ) → Type 0
InputsInside file table inputs =
    (i : ℕ) → i < streams_of file → equation_at file i ≡ Input → type_at file i ≡ IntType → In (range_in table i) (given (node_of file) inputs i)

-- "each int value stays in its range"
abbrev pub ValuesInside : (file : List ℕ) → (table : List ℤ) → Values → Type 0
ValuesInside file table values =
    (i : ℕ) → i < streams_of file → type_at file i ≡ IntType → In (range_in table i) (values i)

-- over unbounded whole numbers, up to each instant
abbrev pub SolutionsInside : Type 0
SolutionsInside =
    (file : List ℕ) (table : List ℤ) → listing_of file table ≡ accepted tt
    → (inputs : Inputs) (v : Streams) → Solution (node_of file) inputs v
    → (t : ℕ) → ((j : ℕ) → j ≤ t → InputsInside file table (inputs j))
    → ValuesInside file table (v t)

-- the whole answer to a call that is never refused with 34: 31 to 33 in order
abbrev pub answer_inside : (file : List ℕ) → Call → Answer (Unit {0})
answer_inside file c =
    check (eqb (length c.inputs) (input_count file)) 31 File
    (check (eqb (length c.slice) (streams_of file)) 32 File
    (check_all (lowest (input_typed file c.inputs) (streams_of file)) 33 AtRecord
    (accepted tt)))

-- where the int inputs of a list's answered calls were inside, so were their values
abbrev pub AllInside : (file : List ℕ) → (table : List ℤ) → List Answered → Type 0
AllInside file table done = (t : ℕ) → t < length done → InputsInside file table (call done t).inputs

abbrev pub ListStays : (file : List ℕ) → (table : List ℤ) → List Answered → Type 0
ListStays file table done =
    AllInside file table done
    → (t : ℕ) → t < length done → ValuesInside file table (values_in (call done t).values)

-- a session in a run, and any next call, trial or old: each call of a list is the next one after those before it. Its int inputs are
-- those of the commits and its own
pub record StaysInside (file : List ℕ) (table : List ℤ) (s : Session) (r : Run) : Type 0 where
  pub commits : ListStays file table r.done
  pub trials : All (ListStays file table) r.tried
  pub answers : AllInside file table r.done → (c : Call) → InputsInside file table c.inputs → answer_to s c ≡ answer_inside file c
  pub never_34 : AllInside file table r.done → (c : Call) → InputsInside file table c.inputs → (place : Place) → ¬ (answer_to s c ≡ refused 34 place)

-- whatever the file, the table, the record before the beginning and the events, where the last answered beginning is on the file
abbrev pub SessionsInside : Type 0
SessionsInside =
    (file : List ℕ) (table : List ℤ) → listing_of file table ≡ accepted tt
    → (before : Session) (events : List Event)
    → let s = begun_of file before in
    let r = last_run s (begun_run file) events in
    r.node ≡ file → StaysInside file table (after_events s events) r
