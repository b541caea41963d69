-- What the checks of lines count on: rules 1 to 8, 23 and 11 to 15 have passed, and what was read of them is at hand.
use Rattle.std.specs.Prelude.{ℕ, ◌+◌, ◌*◌, ◌≤◌, ◌≡◌, List, length}
use Rattle.node.specs.Layout.{streams_of, property_of}
use Rattle.node.specs.Outcome.{NodeRules}
use Rattle.constraints.specs.Ready.{Ready}
use Rattle.rules.specs.Verdict.{types_of_node}
use Rattle.lines.specs.declared.frame.Frame.{Frame}
use Rattle.lines.specs.Frame.{frame_of}

-- all of them have passed, and what was read of both files is at hand
pub record Checking (node cert : List ℕ) (f : Frame) : Type 0 where
  pub frame : f ≡ frame_of cert (streams_of node) (property_of node)
  pub room : f.lines + 80 * (f.base + f.step) ≤ length cert
  pub node_rules : NodeRules node
  pub ready : Ready (types_of_node node) cert
