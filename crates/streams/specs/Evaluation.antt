-- One instant worked out in an array, stream by stream along a list of stream numbers. No definition of a solution rests on
-- this: that the array then holds the solution's values is a theorem (proofs/Evaluations.antt).
use Rattle.std.specs.Prelude.{ℕ, zero, suc, Bool, true, false, List, [], ℤ, pos, length, get_or, set, replicate}
use Rattle.streams.specs.Nodes.{Node}
use Rattle.streams.specs.Solutions.{row}
use Rattle.streams.specs.Typing.{Inputs}
use Rattle.streams.specs.Values.{Values, values_in}

-- the value of stream s, worked out from the values so far: its row's, whatever reads it
abbrev pub worked : Node → (inputs : List ℤ) → (first : Bool) → (past : Values) → (s : ℕ) → (present : Values) → ℤ
worked node inputs first past s present = row node inputs first past s present

-- .. and set among them
abbrev pub settled : Node → (inputs : List ℤ) → (first : Bool) → (past : Values) → (s : ℕ) → (present : List ℤ) → List ℤ
settled node inputs first past s present = set present s (worked node inputs first past s (values_in present))

-- the first k streams of the order, one after another, from what the array held at the start
unfoldable pub evaluated : Node → (order : List ℕ) → (inputs : List ℤ) → (first : Bool) → (past : Values) → (start : List ℤ) → (k : ℕ) → List ℤ
evaluated node order inputs first past start zero = start
evaluated node order inputs first past start (suc k) =
    settled node inputs first past (get_or order k 0) (evaluated node order inputs first past start k)

-- all of them: one instant, from the values of the one before
unfoldable pub instant : Node → (order : List ℕ) → (inputs : List ℤ) → (first : Bool) → (past : List ℤ) → List ℤ
instant node order inputs first past =
    evaluated node order inputs first (values_in past) (replicate node.streams (pos 0)) (length order)

-- instants 0 to t, each from the one before
unfoldable pub instants : Node → (order : List ℕ) → Inputs → (t : ℕ) → List ℤ
instants node order inputs zero = instant node order (inputs zero) true []
instants node order inputs (suc t) = instant node order (inputs (suc t)) false (instants node order inputs t)
