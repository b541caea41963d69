-- The streams of a node, as the rules of a certificate see them.
use Rattle.std.specs.Prelude.{ℕ, List, cond, ltb}
use Rattle.node.specs.Equations.{byte_of, type_at}
use Rattle.constraints.specs.Rules.{Types}

-- the first n streams: 0 a bool, 1 an int; past them 2
abbrev pub types_below : List ℕ → (n : ℕ) → Types
types_below node n x = cond (ltb x n) (byte_of (type_at node x)) 2
