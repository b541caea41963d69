-- What stands between the calls of a session: the record holds the node, so that 30 refuses no call, and the last committed values are
-- the solution's. So the values that a call works out are the solution's too.
-- Assumes nothing.
use mathlib.Core.Path.{◌≡◌, ◌∙◌, ap, subst}
use mathlib.Core.Bool.{Bool, true, false}
use mathlib.Core.List.{List, [], ◌∷◌, ◌++◌}
use Prim.Native.Nat.{ℕ, suc, ◌<◌}
use lib.IntN.{ℤ}
use lib.ListN.{length}
use Rattle.answers.specs.Answer.{accepted}
use Rattle.answers.specs.declared.NodeValues.{NodeValues}
use Rattle.node.specs.Layout.{streams_of}
use Rattle.node.specs.Note.{without_note}
use Rattle.node.specs.Reads.{All, order_of}
use Rattle.node.specs.Verdict.{verdict_of}
use Rattle.node.proofs.WellFormedness.{accepted_well_formed}
use Rattle.streams.specs.Evaluation.{instant}
use Rattle.streams.specs.Instant.{instant_of}
use Rattle.streams.specs.Nodes.{Node, node_of, WellFormedNode, node_order}
use Rattle.streams.specs.Solutions.{Streams, is_first, before, Solution}
use Rattle.streams.specs.Typing.{Inputs}
use Rattle.streams.specs.Values.{values_in}
use Rattle.streams.proofs.Agreement.{Rows, SamePast}
use Rattle.streams.proofs.Evaluations as Evaluations
use Rattle.streams.proofs.Orders.{place_of, worked_out_order_is}
use Rattle.session.specs.declared.Session.{Session}
use Rattle.session.specs.Instants.{worked_out}
use Rattle.session.specs.Events.{Trial, none, some, Run}
use Rattle.session.specs.Lists.{Answered}
use Rattle.session.specs.Records.{held_file, unstarted, untried, holds_node}
use Rattle.session.specs.Theorems.{StartsWith, Shows}
use Rattle.session.proofs.Nodes.{node_same}

-- the session s on the file, after the commits of `done`
pub record Standing (file : List ℕ) (done : List Answered) (s : Session) : Type 0 where
  pub node : holds_node s ≡ true
  pub holds : held_file s ≡ without_note file
  pub first : is_first (length done) ≡ unstarted s
  -- the last committed values are those of every solution on inputs that start with the committed ones
  pub last :
      (u : Inputs) → StartsWith done (length done) u
      → (v : Streams) → Solution (node_of file) u v
      → SamePast (node_of file) (unstarted s) (values_in s.last) (before v (length done))
  pub shows : Shows file done

-- the trial `a` that it holds: its values are those of every solution on inputs that start with the committed ones and go on with its own
pub record HoldsTrial (file : List ℕ) (done : List Answered) (s : Session) (a : Answered) : Type 0 where
  pub held : untried s ≡ false
  pub values :
      (u : Inputs) → StartsWith (done ++ (a ∷ [])) (suc (length done)) u
      → (v : Streams) → Solution (node_of file) u v
      → (i : ℕ) → i < streams_of file → values_in s.trial i ≡ v (length done) i
  pub shows : Shows file (done ++ (a ∷ []))

abbrev pub TrialStands : (file : List ℕ) → (done : List Answered) → (s : Session) → Trial → Type 0
TrialStands file done s none = untried s ≡ true
TrialStands file done s (some a) = HoldsTrial file done s a

-- the session s in a run
pub record RunStands (r : Run) (s : Session) : Type 0 where
  pub node : NodeValues
  pub accepts : verdict_of r.node ≡ accepted node
  pub stands : Standing r.node r.done s
  pub trials : All (Shows r.node) r.tried
  pub held : TrialStands r.node r.done s r.held

module _ (file : List ℕ) {node : NodeValues} (e : verdict_of file ≡ accepted node) (done : List Answered) (s : Session) (stands : Standing file done s) where
  wf : WellFormedNode (node_of file)
  wf = accepted_well_formed file e

  pub held_node : node_of (held_file s) ≡ node_of file
  held_node = ap node_of stands.holds ∙ node_same file e

  module _ (inputs : List ℤ) where
    worked_out_by : worked_out s inputs ≡ instant (node_of file) (order_of file) inputs (unstarted s) s.last
    unfolding instant_of
    worked_out_by = ap (λ (n : Node). instant n (node_order n) inputs (unstarted s) s.last) held_node

    pub worked_out_length : length (worked_out s inputs) ≡ streams_of file
    worked_out_length =
        ap length worked_out_by
        ∙ Evaluations.instant_length (node_of file) (order_of file) inputs (unstarted s) s.last

    -- the values worked out are those of every solution on inputs that go on with these
    pub worked_out_is : (u : Inputs) → StartsWith done (length done) u → u (length done) ≡ inputs → (v : Streams) → Solution (node_of file) u v → (i : ℕ) → i < streams_of file → values_in (worked_out s inputs) i ≡ v (length done) i
    worked_out_is u starts own v solves i l =
        ap (λ (k : List ℤ). values_in k i) worked_out_by
        ∙ Evaluations.instant_is (node_of file) (place_of (node_of file)) (order_of file) (worked_out_order_is (node_of file) wf) inputs (unstarted s) s.last (before v (length done)) (v (length done))
        (stands.last u starts v solves) rows i l
      where
        rows : Rows (node_of file) inputs (unstarted s) (before v (length done)) (v (length done))
        rows =
            subst (λ (first : Bool). Rows (node_of file) inputs first (before v (length done)) (v (length done))) stands.first
            (subst (λ (k : List ℤ). Rows (node_of file) k (is_first (length done)) (before v (length done)) (v (length done))) own (solves.holds (length done)))
