-- Which node a file, and a record, holds, from the tests in turn.
-- Assumes nothing.
use mathlib.Core.Path.{◌≡◌, sym, ◌∙◌, ap}
use mathlib.Core.Bool.{Bool, true, false, ◌&&◌, ◌||◌, false≢true}
use mathlib.Core.List.{List}
use Prim.Native.Nat.{ℕ, ◌<◌, ◌≤◌}
use borrow.Author.Tests.{le-leb, lt-leb}
use lib.Dec.{leb}
use lib.IntN.{ℤ}
use lib.ListN.{take}
use Rattle.answers.specs.declared.Place.{Place}
use Rattle.answers.specs.Answer.{accepted, refused}
use Rattle.answers.specs.declared.NodeValues.{NodeValues}
use Rattle.answers.specs.Checks.{every}
use Rattle.answers.proofs.Tests.{both_true}
use Rattle.node.specs.Layout.{streams_of}
use Rattle.node.specs.Verdict.{verdict_of}
use Rattle.node.proofs.Outcomes.{accepted_values}
use Rattle.session.specs.declared.Session.{Session}
use Rattle.session.specs.Records.{held_file, unstarted, untried, value_typed, is_node, holds, holds_node}
use Rattle.session.specs.Working.{node_in, node_held}
use Rattle.std.specs.Prelude.{Some, None}

module _ (file : List ℕ) (first : Bool) (last : List ℤ) (free : Bool) (trial : List ℤ) where
  module _ {node : NodeValues} (e : verdict_of file ≡ accepted node) where
    streams_is : node.streams ≡ streams_of file
    streams_is = ap (λ (v : NodeValues). v.streams) (accepted_values file e)

    -- what is tested of the last values and of the trial's
    abbrev tested : Bool
    tested = (first || every (value_typed file last) node.streams) && (free || every (value_typed file trial) node.streams)

    pub typed : tested ≡ true → Some node.streams ≡ node_in file first last free trial
    unfolding node_in
    typed t = rw (e, ← streams_is, t)

    pub untyped : tested ≡ false → None ≡ node_in file first last free trial
    unfolding node_in
    untyped t = rw (e, ← streams_is, t)

  pub not_accepted : {number : ℕ} {place : Place} → verdict_of file ≡ refused number place → None ≡ node_in file first last free trial
  unfolding node_in
  not_accepted e = rw e

module _ (file : List ℕ) (size : ℕ) (first : Bool) (last : List ℤ) (free : Bool) (trial : List ℤ) where
  -- what has a length over 1040 holds none ..
  pub not_held : {A : Type 0} → 1040 < size → holds file size first last free trial ≡ true → A
  not_held l e = absurd (false≢true (sym (ap (λ (b : Bool). b && is_node (take size file) first last free trial) (lt-leb size 1040 l)) ∙ e))

  -- .. and what holds one holds that of its file
  pub short_holds : holds file size first last free trial ≡ true → is_node (take size file) first last free trial ≡ true
  short_holds e = (both_true (leb size 1040) (is_node (take size file) first last free trial) e).1

module _ (s : Session) where
  -- a length over 1040 is no node's
  pub too_long : 1040 < s.length → None ≡ node_held s
  unfolding node_held holds_node
  too_long l = rw (lt-leb s.length 1040 l)

  module _ (short : s.length ≤ 1040) where
    pub short_enough : node_in (held_file s) (unstarted s) s.last (untried s) s.trial ≡ node_held s
    unfolding node_held node_in holds_node
    short_enough = rw (le-leb s.length 1040 short)

    pub held_refused : {number : ℕ} {place : Place} → verdict_of (held_file s) ≡ refused number place → None ≡ node_held s
    held_refused e = not_accepted (held_file s) (unstarted s) s.last (untried s) s.trial e ∙ short_enough

    module _ {node : NodeValues} (e : verdict_of (held_file s) ≡ accepted node) where
      -- the two tests one by one, as they are made
      abbrev last_typed : Bool
      last_typed = unstarted s || every (value_typed (held_file s) s.last) node.streams

      abbrev trial_typed : Bool
      trial_typed = untried s || every (value_typed (held_file s) s.trial) node.streams

      pub both_typed : last_typed ≡ true → trial_typed ≡ true → Some node.streams ≡ node_held s
      both_typed l t = typed (held_file s) (unstarted s) s.last (untried s) s.trial e (rw (l, t)) ∙ short_enough

      pub last_untyped : last_typed ≡ false → None ≡ node_held s
      last_untyped l = untyped (held_file s) (unstarted s) s.last (untried s) s.trial e (rw l) ∙ short_enough

      pub trial_untyped : last_typed ≡ true → trial_typed ≡ false → None ≡ node_held s
      trial_untyped l t = untyped (held_file s) (unstarted s) s.last (untried s) s.trial e (rw (l, t)) ∙ short_enough
