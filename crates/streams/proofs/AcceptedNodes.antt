-- Every file that the node reader accepts has exactly one solution on all typed inputs, it depends on the past alone, and the
-- evaluation along the worked-out order computes it.
-- Assumes nothing.
use mathlib.Core.Path.{◌≡◌, refl, subst}
use mathlib.Core.List.{List}
use Prim.Native.Nat.{ℕ, ◌<◌, ◌≤◌}
use native.Mathlib.Nat.{le_trans}
use Rattle.answers.specs.Answer.{accepted}
use Rattle.answers.specs.declared.NodeValues.{NodeValues}
use Rattle.node.specs.Reads.{order_of}
use Rattle.node.specs.Verdict.{verdict_of}
use Rattle.node.proofs.WellFormedness.{accepted_well_formed}
use Rattle.node.specs.declared.equation.StreamType.{StreamType}
use Rattle.streams.specs.Evaluation.{instants}
use Rattle.streams.specs.Nodes.{Node, node_of, WellFormedNode, node_order}
use Rattle.streams.specs.Solutions.{Streams, Solution}
use Rattle.streams.specs.Theorems.{OneSolution, DependsOnlyOnPast, EvaluationIs}
use Rattle.streams.specs.Typing.{Fits, Inputs, TypedInputs}
use Rattle.streams.specs.Values.{values_in}
use Rattle.streams.proofs.Agreement.{agree_until}
use Rattle.streams.proofs.Evaluations as Evaluations
use Rattle.streams.proofs.Numbers.{zero_or_one}
use Rattle.streams.proofs.Orders.{place_of, ranked_by_place, worked_out_order_is}
use Rattle.streams.proofs.Types.{rows_fit}

module _ (node : Node) (wf : WellFormedNode node) where
  -- the values that the evaluation along the worked-out order gives
  abbrev worked_out_holds : Inputs → Streams
  worked_out_holds inputs t = values_in (instants node (node_order node) inputs t)

  pub worked_out_solves : (inputs : Inputs) → TypedInputs node inputs → Solution node inputs (worked_out_holds inputs)
  worked_out_solves inputs typed =
      let rows = Evaluations.instants_rows node (place_of node) (node_order node) (worked_out_order_is node wf) inputs in
      record { fits = rows_fit node wf inputs typed (worked_out_holds inputs) rows; holds = rows }

  pub depends : (inputs others : Inputs) (v w : Streams) → Solution node inputs v → Solution node others w → (t : ℕ) → ((j : ℕ) → j ≤ t → inputs j ≡ others j) → (s : ℕ) → s < node.streams → v t s ≡ w t s
  depends inputs others v w of_v of_w =
      agree_until node (place_of node) (ranked_by_place node wf) inputs others v w of_v.holds of_w.holds

module _ (s : List ℕ) {node : NodeValues} (e : verdict_of s ≡ accepted node) where
  wf : WellFormedNode (node_of s)
  wf = accepted_well_formed s e

  pub one_solution : OneSolution s
  one_solution =
      record {
        exists = λ inputs typed. (worked_out_holds (node_of s) wf inputs, worked_out_solves (node_of s) wf inputs typed);
        same = λ inputs v w of_v of_w t. depends (node_of s) wf inputs inputs v w of_v of_w t (λ j l. refl);
        bools = λ inputs v of_v t i l bool. zero_or_one (v t i) (subst (λ (k : StreamType). Fits k (v t i)) bool (of_v.fits t i l));
      }

  pub depends_only_on_past : DependsOnlyOnPast s
  depends_only_on_past inputs others v w of_v of_w t same j i l =
      depends (node_of s) wf inputs others v w of_v of_w j (λ k m. same k (le_trans m l)) i

  pub evaluation_is : EvaluationIs s
  evaluation_is = Evaluations.evaluation_is (node_of s) (place_of (node_of s)) (order_of s) (worked_out_order_is (node_of s) wf)
