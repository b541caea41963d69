-- A node as its meaning needs it: "A booking node is a file that the node reader accepts."
use Rattle.std.specs.Prelude.{ℕ, List}
use Rattle.node.specs.declared.equation.StreamType.{StreamType}
use Rattle.node.specs.declared.equation.Equation.{Equation}
use Rattle.node.specs.Equations.{type_at, equation_at}
use Rattle.node.specs.Inputs.{inputs_below, input_count}
use Rattle.node.specs.Layout.{streams_of, property_of}
use Rattle.node.specs.Reads.{WellFormed, worked_out_order}

pub record Node : Type 0 where
  pub streams : ℕ  -- "stream count n"
  pub property : ℕ  -- "property stream"
  pub types : ℕ → StreamType  -- the type of each stream
  pub equations : ℕ → Equation  -- "Record i defines stream i"
  pub inputs : ℕ  -- how many inputs there are
  pub input_number : ℕ → ℕ  -- an input stream's number among the inputs, "in record order"

-- the node of a file
abbrev pub node_of : List ℕ → Node
node_of s =
    record {
      streams = streams_of s;
      property = property_of s;
      types = type_at s;
      equations = equation_at s;
      inputs = input_count s;
      input_number = inputs_below s;
    }

-- all that is known of an accepted file's node
abbrev pub WellFormedNode : Node → Type 0
WellFormedNode node = WellFormed node.streams node.property node.types node.equations

-- its worked-out order; of a file's node, `order_of`
abbrev pub node_order : Node → List ℕ
node_order node = worked_out_order node.equations node.streams
