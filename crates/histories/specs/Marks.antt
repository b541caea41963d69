-- The bool inputs of a node marked by their numbers, for the code of 33.
use Rattle.std.specs.Prelude.{ℕ, ◌<◌, ◌≡◌, Bool, true, false, List, ℤ, get_or}
use Rattle.node.specs.declared.equation.StreamType.{StreamType}
use Rattle.node.specs.declared.equation.StreamType.TheVariants.{Bool as BoolType, Int as IntType}
use Rattle.node.specs.Equations.{type_at}
use Rattle.node.specs.Inputs.{is_input, inputs_below}
use Rattle.streams.specs.Typing.{fits_test}
use Rattle.streams.specs.Values.{values_in}

abbrev pub is_bool : StreamType → Bool
is_bool BoolType = true
is_bool IntType = false

-- each bool input of the first k records is marked
abbrev pub MarksBools : (file : List ℕ) → (k : ℕ) → (marks : List Bool) → Type 0
MarksBools file k marks = (i : ℕ) → i < k → is_input file i ≡ true → is_bool (type_at file i) ≡ true → get_or marks (inputs_below file i) false ≡ true

-- each marked number of the first k is 0 or 1
abbrev pub MarkedFit : (marks : List Bool) → (numbers : List ℤ) → (k : ℕ) → Type 0
MarkedFit marks numbers k = (j : ℕ) → j < k → get_or marks j false ≡ true → fits_test BoolType (values_in numbers j) ≡ true
