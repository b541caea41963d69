-- What the recursion keeps: a table of what is known, entry 64·t + s for stream s at instant t.
use Rattle.std.specs.Prelude.{ℕ, ◌+◌, ◌*◌, ◌<◌, ◌≤◌, ◌≡◌, true, List, [], ◌∷◌, ℤ, length, get_or, None, Option, Some}
use Rattle.answers.specs.Answer.{is_accepted}
use Rattle.integers.specs.Range.{inside}
use Rattle.node.specs.declared.equation.Equation.{Equation}
use Rattle.node.specs.declared.equation.Equation.TheVariants.{Input}
use Rattle.node.specs.Equations.{equation_at}
use Rattle.node.specs.Inputs.{input_count}
use Rattle.node.specs.Layout.{streams_of}
use Rattle.node.specs.Order.{place_in}
use Rattle.node.specs.Reads.{order_of}
use Rattle.node.specs.Verdict.{verdict_of}
use Rattle.streams.specs.Meaning.{meaning}
use Rattle.streams.specs.Nodes.{node_of}
use Rattle.streams.specs.Solutions.{Streams, is_first, before}
use Rattle.streams.specs.Typing.{given}
use Rattle.streams.specs.Values.{values_in}
use Rattle.histories.specs.History.{inputs_at, history_values}
use Rattle.look_up.specs.declared.visits.Visit.{Visit}
use Rattle.look_up.specs.Visits.{local_of, To, value_at}
use Rattle.look_up.specs.Visited.{Equations, VisitedInside, VisitedOutside}

-- what a look-up says of stream s at instant t
abbrev pub Outcome : Equations → Streams → (t s : ℕ) → Option ℤ → Type 0
Outcome es v t s (Some x) = (x ≡ v t s) × VisitedInside es v t s
Outcome es v t s None = VisitedOutside es v t s

-- the same of a visit
pub record OutsideFrom (es : Equations) (v : Streams) (visit : Option Visit) : Type 0 where
  pub instant : ℕ
  pub stream : ℕ
  pub led : To visit instant stream
  pub some : VisitedOutside es v instant stream

abbrev pub OutcomeTo : Equations → Streams → Option Visit → Option ℤ → Type 0
OutcomeTo es v visit (Some x) = (x ≡ value_at v visit) × ((j r : ℕ) → To visit j r → VisitedInside es v j r)
OutcomeTo es v visit None = OutsideFrom es v visit

-- the value of an equation from those of its visits, x and y
abbrev pub over : Equation → (given x y : ℤ) → ℤ
over e given x y = meaning (local_of e) given true (values_in []) (values_in (x ∷ y ∷ []))

-- the values keep the equations; an input stream has any value
abbrev pub Obeys : Equations → (n : ℕ) → Streams → Type 0
Obeys es n v = (t s : ℕ) → s < n → v t s ≡ meaning (es s) (v t s) (is_first t) (before v t) (v t)

-- a table for the first k instants: a known entry answers its look-up, and the inputs are known from the start
pub record Table (es : Equations) (n k : ℕ) (v : Streams) (table : List (Option ℤ)) : Type 0 where
  pub sized : length table ≡ 1024
  pub kept : (t s : ℕ) → t < k → s < n → (x : ℤ) → get_or table (64 * t + s) None ≡ Some x → Outcome es v t s (Some x)
  pub givens : (t s : ℕ) → t < k → s < n → es s ≡ Input → get_or table (64 * t + s) None ≡ Some (v t s)

-- what a call of the recursion asks: an accepted file of n streams, a stream and an instant in the table
pub record Ready (file : List ℕ) (n t s : ℕ) : Type 0 where
  pub accepts : is_accepted (verdict_of file) ≡ true
  pub count : n ≡ streams_of file
  pub early : t < 16
  pub below : s < n

-- .. and a visit
abbrev pub VisitIn : (n : ℕ) → Option Visit → Type 0
VisitIn n None = Unit {0}
VisitIn n (Some visit) = (visit.instant < 16) × (visit.stream < n)

pub record ReadyTo (file : List ℕ) (n : ℕ) (visit : Option Visit) : Type 0 where
  pub accepts : is_accepted (verdict_of file) ≡ true
  pub count : n ≡ streams_of file
  pub within : VisitIn n visit

-- whatever values keep the equations: a table for the first k instants stays one, and the answer is theirs, where `Early` says which k
-- are meant
abbrev pub Keeps : (file : List ℕ) (table table' : List (Option ℤ)) → (Early : ℕ → Type 0) → (Streams → Type 0) → Type 0
Keeps file table table' Early P =
    (v : Streams) (k : ℕ) → Obeys (equation_at file) (streams_of file) v → Early k → k ≤ 16
    → Table (equation_at file) (streams_of file) k v table
    → Table (equation_at file) (streams_of file) k v table' × P v

pub record LookedUp (file : List ℕ) (t s : ℕ) (table table' : List (Option ℤ)) (r : Option ℤ) : Type 0 where
  pub shows : Keeps file table table' (λ k. t < k) (λ v. Outcome (equation_at file) v t s r)

-- the visit's instant is among the first k
abbrev pub VisitEarly : Option Visit → ℕ → Type 0
VisitEarly None k = Unit {0}
VisitEarly (Some visit) k = visit.instant < k

pub record Followed (file : List ℕ) (visit : Option Visit) (table table' : List (Option ℤ)) (r : Option ℤ) : Type 0 where
  pub shows : Keeps file table table' (VisitEarly visit) (λ v. OutcomeTo (equation_at file) v visit r)

-- the falling number: of a look-up, and of a visit one more than that of what it looks up. Streams fall along the worked-out order
abbrev pub look_rank : (file : List ℕ) → (t s : ℕ) → ℕ
look_rank file t s = 2 * (64 * t + place_in (order_of file) s) + 1

abbrev pub visit_rank : (file : List ℕ) → Option Visit → ℕ
visit_rank file None = 0
visit_rank file (Some visit) = 2 * (64 * visit.instant + place_in (order_of file) visit.stream) + 2

-- stream s has its inputs, number j of each instant, at the first k instants; the other streams are as before
pub record StreamSet (inputs : List ℤ) (m j s k : ℕ) (before after : List (Option ℤ)) : Type 0 where
  pub size : length after ≡ length before
  pub own : (t : ℕ) → t < k → get_or after (64 * t + s) None ≡ Some (values_in (inputs_at m inputs t) j)
  pub ranged : (t : ℕ) → t < k → inside (values_in (inputs_at m inputs t) j) ≡ true
  pub others : (t r : ℕ) → r < 64 → (r ≡ s → ⊥) → get_or after (64 * t + r) None ≡ get_or before (64 * t + r) None

-- the inputs of the first k streams are known, at the first `count` instants, and nothing else is
pub record HoldsHistory (file : List ℕ) (count : ℕ) (inputs : List ℤ) (k : ℕ) (table : List (Option ℤ)) : Type 0 where
  pub size : length table ≡ 1024
  pub entries :
      (t s : ℕ) → t < count → s < k → equation_at file s ≡ Input
      → get_or table (64 * t + s) None ≡ Some (given (node_of file) (inputs_at (input_count file) inputs t) s)
  pub ranged :
      (t s : ℕ) → t < count → s < k → equation_at file s ≡ Input
      → inside (given (node_of file) (inputs_at (input_count file) inputs t) s) ≡ true
  pub alone : (t s : ℕ) → s < 64 → (x : ℤ) → get_or table (64 * t + s) None ≡ Some x → equation_at file s ≡ Input

-- the answer for the values of a history
pub record ToldOf (file : List ℕ) (count : ℕ) (inputs : List ℤ) (stream instant : ℕ) (r : Option ℤ) : Type 0 where
  pub says : Outcome (equation_at file) (history_values file count inputs) instant stream r
