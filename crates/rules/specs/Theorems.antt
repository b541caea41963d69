-- What a certificate that keeps the rules proves, stated without the proofs.
use Rattle.std.specs.Prelude.{◌≡◌, ℕ, ◌+◌, ◌≤◌, List, cond, pos}
use Rattle.node.specs.Layout.{property_of}
use Rattle.streams.specs.Nodes.{node_of}
use Rattle.streams.specs.Solutions.{Streams, Solution}
use Rattle.streams.specs.Typing.{Inputs, TypedInputs}
use Rattle.rules.specs.Versions.{Version}

-- in every solution on every endless typed inputs the property stream is 1 at every instant
abbrev pub PropertyHolds : (node : List ℕ) → Type 0
PropertyHolds node =
    (inputs : Inputs) → TypedInputs (node_of node) inputs
    → (values : Streams) → Solution (node_of node) inputs values
    → (t : ℕ) → values t (property_of node) ≡ pos 1

-- the earliest instant that a window of the step begins at
abbrev pub earliest : Version → ℕ
earliest version = cond version.after 1 0

-- what makes a version sound: its base covers every instant that the step does not reach, those before the last one of its earliest
-- window. No offset is past k.
pub record Covers (version : Version) : Type 0 where
  pub reaches : (k : ℕ) → earliest version + k ≤ version.covered k
  pub within : (k : ℕ) → version.covered k ≤ k + 1
