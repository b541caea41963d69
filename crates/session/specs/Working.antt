-- What the steps of an instant's call give.
use Rattle.std.specs.Prelude.{ℕ, List, Bool, cond, ℤ, Option, Some, None}
use Rattle.node.specs.Layout.{streams_of}
use Rattle.session.specs.declared.Session.{Session}
use Rattle.session.specs.Records.{held_file, is_node, holds_node}

-- the node that a file holds: how many streams it has
unfoldable pub node_in : (file : List ℕ) → (first : Bool) → (last : List ℤ) → (free : Bool) → (trial : List ℤ) → Option ℕ
node_in file first last free trial = cond (is_node file first last free trial) (Some (streams_of file)) None

-- the node that a record holds: how many streams it has
unfoldable pub node_held : Session → Option ℕ
node_held s = cond (holds_node s) (Some (streams_of (held_file s))) None
