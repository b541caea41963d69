-- Types: what a value of each type is, and inputs that keep them.
use Rattle.std.specs.Prelude.{◌≡◌, ℕ, ◌<◌, Bool, true, ◌&&◌, List, ℤ, pos, length, get_or, ◌≤ℤ◌}
use Rattle.std.specs.Int.Signed.{le_z}
use Rattle.node.specs.declared.equation.StreamType.{StreamType}
use Rattle.node.specs.declared.equation.StreamType.TheVariants.{Bool as BoolType, Int as IntType}
use Rattle.node.specs.declared.equation.Equation.TheVariants.{Input}
use Rattle.streams.specs.Nodes.{Node}

-- "true or false for bool, any whole number for int; 1 stands for true, 0 for false"
abbrev pub Fits : StreamType → ℤ → Type 0
Fits BoolType z = (pos 0 ≤ℤ z) × (z ≤ℤ pos 1)
Fits IntType z = Unit {0}

-- the same as a test
abbrev pub fits_test : StreamType → ℤ → Bool
fits_test BoolType z = le_z (pos 0) z && le_z z (pos 1)
fits_test IntType z = true

-- "Its inputs are endless: at each instant 0, 1, 2 and on": one number an input, in record order
abbrev pub Inputs : Type 0
Inputs = ℕ → List ℤ

-- the input of stream s
abbrev pub given : Node → List ℤ → (s : ℕ) → ℤ
given node inputs s = get_or inputs (node.input_number s) (pos 0)

-- one instant's inputs: "true or false for each bool input and any whole number for each int one"
pub record TypedInstant (node : Node) (inputs : List ℤ) : Type 0 where
  pub count : length inputs ≡ node.inputs
  pub fits : (s : ℕ) → s < node.streams → node.equations s ≡ Input → Fits (node.types s) (given node inputs s)

abbrev pub TypedInputs : Node → Inputs → Type 0
TypedInputs node inputs = (t : ℕ) → TypedInstant node (inputs t)
