-- The inputs of a node: "one signed 64-bit number an input, in record order".
use Rattle.std.specs.Prelude.{ℕ, zero, suc, ◌^◌, List, Bool, cond, ◌&&◌, eqb, ltb}
use Rattle.node.specs.declared.equation.Equation.{Equation}
use Rattle.node.specs.Equations.{fields_of, equation_among}
use Rattle.node.specs.Layout.{records_of}

-- an equation is an input: its operator is 0
abbrev pub is_input_equation : Equation → Bool
is_input_equation e = eqb (fields_of e).op 0

-- record i of n is an input
abbrev pub is_input_among : List ℕ → (n i : ℕ) → Bool
is_input_among s n i = is_input_equation (equation_among s n i)

-- record i is an input
abbrev pub is_input : List ℕ → ℕ → Bool
is_input s i = is_input_among s (records_of s) i

-- how many of the first i records are inputs
abbrev pub with_record : List ℕ → (i inputs : ℕ) → ℕ
with_record s i inputs = cond (is_input s i) (suc inputs) inputs

unfoldable pub inputs_below : List ℕ → (i : ℕ) → ℕ
inputs_below s zero = 0
inputs_below s (suc i) = with_record s i (inputs_below s i)

-- the same with record i of n, for any count: one of 2^63 or more, which no node has, stays as it is
abbrev pub with_record_among : List ℕ → (n i inputs : ℕ) → ℕ
with_record_among s n i inputs = cond (is_input_among s n i && ltb inputs (2 ^ 63)) (suc inputs) inputs

-- how many inputs there are
abbrev pub input_count : List ℕ → ℕ
input_count s = inputs_below s (records_of s)
