-- What is proved of every file that the node reader accepts, stated without the proofs.
use Rattle.std.specs.Prelude.{◌≡◌, ◌⊎◌, ℕ, ◌<◌, ◌≤◌, List, pos}
use Rattle.node.specs.declared.equation.StreamType.TheVariants.{Bool as BoolType}
use Rattle.node.specs.Equations.{type_at}
use Rattle.node.specs.Layout.{streams_of}
use Rattle.node.specs.Reads.{order_of}
use Rattle.streams.specs.Evaluation.{instants}
use Rattle.streams.specs.Nodes.{node_of}
use Rattle.streams.specs.Solutions.{Streams, Solution}
use Rattle.streams.specs.Typing.{Inputs, TypedInputs}
use Rattle.streams.specs.Values.{values_in}

-- on all typed inputs there is a solution; any two agree on every stream at every instant; a bool stream is 0 or 1 in it
pub record OneSolution (s : List ℕ) : Type 0 where
  pub exists : (inputs : Inputs) → TypedInputs (node_of s) inputs → (values : Streams) × Solution (node_of s) inputs values
  pub same : (inputs : Inputs) (v w : Streams) → Solution (node_of s) inputs v → Solution (node_of s) inputs w → (t i : ℕ) → i < streams_of s → v t i ≡ w t i
  pub bools : (inputs : Inputs) (v : Streams) → Solution (node_of s) inputs v → (t i : ℕ) → i < streams_of s → type_at s i ≡ BoolType → (v t i ≡ pos 0) ⊎ (v t i ≡ pos 1)

-- inputs that agree at instants 0 to t have solutions that agree at instants 0 to t
abbrev pub DependsOnlyOnPast : List ℕ → Type 0
DependsOnlyOnPast s =
    (inputs others : Inputs) (v w : Streams) → Solution (node_of s) inputs v → Solution (node_of s) others w
    → (t : ℕ) → ((j : ℕ) → j ≤ t → inputs j ≡ others j)
    → (j i : ℕ) → j ≤ t → i < streams_of s → v j i ≡ w j i

-- the evaluation along the worked-out order, instant after instant, ends with the solution's values
abbrev pub EvaluationIs : List ℕ → Type 0
EvaluationIs s =
    (inputs : Inputs) (v : Streams) → Solution (node_of s) inputs v
    → (t i : ℕ) → i < streams_of s → values_in (instants (node_of s) (order_of s) inputs t) i ≡ v t i
