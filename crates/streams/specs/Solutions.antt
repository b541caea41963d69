-- Solutions: "It is a solution on those inputs if each input stream has its input, and each other stream at every instant the
-- value in its operator's row, operands read from the same assignment, at the same instant unless the row names the one before."
use Rattle.std.specs.Prelude.{◌≡◌, ℕ, zero, suc, ◌<◌, Bool, true, false, List, ℤ, pos}
use Rattle.streams.specs.Meaning.{meaning}
use Rattle.streams.specs.Nodes.{Node}
use Rattle.streams.specs.Typing.{Fits, Inputs, given}
use Rattle.streams.specs.Values.{Values}

-- "An assignment gives each stream at each instant a value": the instant, then the stream
abbrev pub Streams : Type 0
Streams = ℕ → Values

abbrev pub is_first : (instant : ℕ) → Bool
is_first zero = true
is_first (suc t) = false

-- the values one instant before; at instant 0 no row reads them
abbrev pub before : Streams → (instant : ℕ) → Values
before values zero = λ s. pos 0
before values (suc t) = values t

-- the value in the row of stream s, from the instant's inputs and the values before and now
abbrev pub row : Node → (inputs : List ℤ) → (first : Bool) → (past : Values) → (s : ℕ) → (present : Values) → ℤ
row node inputs first past s present = meaning (node.equations s) (given node inputs s) first past present

pub record Solution (node : Node) (inputs : Inputs) (values : Streams) : Type 0 where
  pub fits : (t s : ℕ) → s < node.streams → Fits (node.types s) (values t s)
  pub holds : (t s : ℕ) → s < node.streams → values t s ≡ row node (inputs t) (is_first t) (before values t) s (values t)
