-- What an accepted node gives the rules of equation lines: its constants are within the limit of K.
-- Assumes nothing.
use mathlib.Core.List.{List}
use Prim.Native.Nat.{ℕ}
use Rattle.node.specs.Equations.{type_at, equation_at, constant_of}
use Rattle.node.specs.Layout.{streams_of}
use Rattle.node.specs.Outcome.{NodeRules}
use Rattle.node.specs.Reads.{row_for}
use Rattle.node.proofs.Encoding.{limited}
use Rattle.node.proofs.WellFormedness.{well_formed}
use Rattle.lines.specs.Constants.{ConstantsLimited}

pub constants_limited : (node : List ℕ) → NodeRules node → ConstantsLimited node (streams_of node)
constants_limited node rules p l = limited (row_for (equation_at node p)).k (type_at node p) (constant_of (equation_at node p)) ((well_formed node rules).constants p l)
