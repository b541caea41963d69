-- Demand 3 from its parts: one solution, a sound certificate, exact sessions.
-- Assumes nothing.
use mathlib.Core.Path.{◌≡◌, sym, ◌∙◌, subst}
use mathlib.Core.List.{List}
use Prim.Native.Nat.{ℕ}
use native.Mathlib.Omega.{arith}
use Rattle.answers.specs.Answer.{accepted}
use Rattle.answers.specs.declared.NodeValues.{NodeValues}
use Rattle.node.specs.Layout.{property_of}
use Rattle.node.specs.Verdict.{verdict_of as node_verdict}
use Rattle.node.proofs.FileRules.{sizes}
use Rattle.node.proofs.Outcomes.{accepted_keeps as node_keeps, keeps_accepted}
use Rattle.rules.proofs.Outcomes.{accepted_keeps}
use Rattle.rules.proofs.TurnLists.{every_turns_agree}
use Rattle.streams.proofs.AcceptedNodes.{one_solution}
use Rattle.streams.proofs.Reading.{all_map}
use Rattle.session.specs.Events.{Run, begun_run, runs}
use Rattle.session.specs.Lists.{Answered, answered}
use Rattle.session.specs.Records.{begun_of}
use Rattle.session.specs.Theorems.{Shows, RunShows}
use Rattle.session.proofs.OldCalls.{old_calls, only_run, only_shown}
use Rattle.session.proofs.Sessions.{sessions_exact}
use Rattle.soundness.specs.Demands.{ShowsProperty, RunProperty, DemandFor, Demand3, TurnsDemandFor, TurnsDemand3, CallsDemandFor}
use Rattle.rules.specs.Theorems.{PropertyHolds, Covers}
use Rattle.rules.specs.Versions.{Version, version2}
use Rattle.rules.proofs.Soundness.{current_covers}
use Rattle.soundness.proofs.Soundness.{sound_for}

-- a solution on inputs that start with the answered ones has the property, and the slices have its values
pub property_shown : (node : List ℕ) {v : NodeValues} → node_verdict node ≡ accepted v → PropertyHolds node → (done : List Answered) → Shows node done → ShowsProperty node done
property_shown node e holds done shows t l =
    let w = shows.solved.0 in
    let of_w = shows.solved.1 in
    shows.shown t l of_w.inputs of_w.typed (λ j m. of_w.starts j (omega arith)) w of_w.solves (property_of node) (sizes node (node_keeps node e).file).property
    ∙ holds of_w.inputs of_w.typed w of_w.solves t

-- the same of a run on the node
run_property : (node : List ℕ) {v : NodeValues} → node_verdict node ≡ accepted v → PropertyHolds node → (r : Run) → RunShows r → r.node ≡ node → RunProperty node r
run_property node e holds r shows on_node =
    let shown : (done : List Answered) → Shows r.node done → ShowsProperty node done = λ done s. property_shown node e holds done (subst (λ (n : List ℕ). Shows n done) on_node s) in
    record {
      commits = shown r.done shows.commits;
      trials = all_map {P = Shows r.node} {Q = ShowsProperty node} shown r.tried shows.trials;
    }

pub demand_for : (version : Version) → Covers version → DemandFor version
demand_for version covers node cert v e before events =
    let begins = keeps_accepted node (accepted_keeps version node cert e).node_rules in
    let holds = sound_for version covers node cert v e in
    let exact = sessions_exact node _ begins before events in
    record {
      one_solution = one_solution node begins;
      property = holds;
      begins = begins;
      shows = exact.0;
      shows_property = all_map {P = RunShows} {Q = λ r. r.node ≡ node → RunProperty node r} (run_property node begins holds) (runs (begun_of node before) (begun_run node) events) exact.0;
    }

pub demand_3 : Demand3
demand_3 = demand_for version2 current_covers

-- the final answer of turns is that of one call
pub turns_demand_for : (version : Version) → Covers version → TurnsDemandFor version
turns_demand_for version covers node cert quotas quota v e =
    demand_for version covers node cert v (sym (every_turns_agree version node cert quotas quota (accepted v) e).as_one_call)

pub turns_demand_3 : TurnsDemand3
turns_demand_3 = turns_demand_for version2 current_covers

-- a list of the old call alone is a case
pub calls_demand_for : (version : Version) → Covers version → CallsDemandFor version
calls_demand_for version covers node cert v e before calls =
    let s = begun_of node before in
    let demanded = demand_for version covers node cert v e before (old_calls calls) in
    let shows = only_run node s calls Shows (only_shown node s calls demanded.shows).commits in
    record {
      one_solution = demanded.one_solution;
      property = demanded.property;
      begins = demanded.begins;
      shows = shows;
      shows_property = property_shown node demanded.begins demanded.property (answered s calls) shows;
    }
