-- What is proved of every history, stated without the proofs.
use Rattle.std.specs.Prelude.{◌≡◌, ℕ, ◌<◌, ◌*◌, true, List, ℤ, length, None}
use Rattle.answers.specs.Answer.{accepted}
use Rattle.answers.specs.declared.NodeValues.{NodeValues}
use Rattle.node.specs.Inputs.{input_count}
use Rattle.node.specs.Layout.{streams_of}
use Rattle.node.specs.Verdict.{verdict_of}
use Rattle.streams.specs.Nodes.{node_of}
use Rattle.streams.specs.Solutions.{Streams, Solution}
use Rattle.streams.specs.Typing.{Inputs, TypedInstant, TypedInputs}
use Rattle.histories.specs.History.{inputs_at, count_ok, bad_input, history_values}

-- a history of typed inputs
pub record TypedHistory (file : List ℕ) (count : ℕ) (inputs : List ℤ) : Type 0 where
  pub counted : length inputs ≡ count * input_count file
  pub typed : (t : ℕ) → t < count → TypedInstant (node_of file) (inputs_at (input_count file) inputs t)

-- v is a solution on endless typed inputs that start with the history
pub record SolvesHistory (file : List ℕ) (count : ℕ) (inputs : List ℤ) (v : Streams) : Type 0 where
  pub endless : Inputs
  pub typed : TypedInputs (node_of file) endless
  pub starts : (t : ℕ) → t < count → endless t ≡ inputs_at (input_count file) inputs t
  pub solves : Solution (node_of file) endless v

-- 31 and 33 pass just the typed ones; there is a solution on them, and in its instants it is the only one
pub record HistoryMeans (file : List ℕ) (count : ℕ) (inputs : List ℤ) : Type 0 where
  pub passes : TypedHistory file count inputs → (count_ok count (input_count file) inputs ≡ true) × (bad_input file inputs count ≡ None)
  pub passed : count_ok count (input_count file) inputs ≡ true → bad_input file inputs count ≡ None → TypedHistory file count inputs
  pub solved : TypedHistory file count inputs → SolvesHistory file count inputs (history_values file count inputs)
  pub only : (v : Streams) → SolvesHistory file count inputs v → (t s : ℕ) → t < count → s < streams_of file → v t s ≡ history_values file count inputs t s

abbrev pub HistoriesMean : Type 0
HistoriesMean = (file : List ℕ) (node : NodeValues) → verdict_of file ≡ accepted node → (count : ℕ) (inputs : List ℤ) → HistoryMeans file count inputs
