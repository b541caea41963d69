-- Nodes whose streams have other numbers: the same equations in another order of records, by name.
use Rattle.std.specs.Prelude.{◌≡◌, ℕ, ◌<◌}
use Rattle.node.specs.declared.equation.Equation.{Equation}
use Rattle.node.specs.declared.equation.Equation.TheVariants.{Input}
use Rattle.node.specs.declared.table.Operand.{Operand}
use Rattle.node.specs.declared.table.Operand.TheVariants.{Unused, Now, Before}
use Rattle.node.specs.Equations.{fields_of, decoded}
use Rattle.node.specs.Reads.{row_for}
use Rattle.streams.specs.Nodes.{Node}
use Rattle.streams.specs.Solutions.{Streams, Solution}
use Rattle.streams.specs.Typing.{Inputs, given}

-- an operand that is read, under its other number
abbrev pub renamed_operand : (names : ℕ → ℕ) → Operand → ℕ → ℕ
renamed_operand names Unused x = x
renamed_operand names (Now wanted) x = names x
renamed_operand names (Before wanted) x = names x

-- an equation with its operands under their other numbers
unfoldable pub renamed : (names : ℕ → ℕ) → Equation → Equation
renamed names e =
    let r = fields_of e in
    let row = row_for e in
    decoded (record {
      op = r.op;
      ty = r.ty;
      a = renamed_operand names row.a r.a;
      b = renamed_operand names row.b r.b;
      c = renamed_operand names row.c r.c;
      k = r.k;
      rest = r.rest;
    })

-- stream s of the one node is stream `names s` of the other
pub record Renamed (names : ℕ → ℕ) (node other : Node) : Type 0 where
  pub inside : (s : ℕ) → s < node.streams → names s < other.streams
  pub equations : (s : ℕ) → s < node.streams → other.equations (names s) ≡ renamed names (node.equations s)

-- inputs that are the same by name
abbrev pub SameInputs : (names : ℕ → ℕ) → (node other : Node) → (inputs others : Inputs) → Type 0
SameInputs names node other inputs others =
    (t s : ℕ) → s < node.streams → node.equations s ≡ Input → given other (others t) (names s) ≡ given node (inputs t) s

-- have solutions that are the same by name
abbrev pub SameByName : (names : ℕ → ℕ) → (node other : Node) → Type 0
SameByName names node other =
    (inputs others : Inputs) → SameInputs names node other inputs others
    → (v w : Streams) → Solution node inputs v → Solution other others w
    → (t s : ℕ) → s < node.streams → w t (names s) ≡ v t s
