-- What a history means: 31 and 33 pass just the typed ones, and the values worked out on one are those of the only solution.
-- Assumes nothing.
use mathlib.Core.Path.{◌≡◌, refl, sym, ◌∙◌}
use mathlib.Core.Bool.{Bool, true, false, cond}
use mathlib.Core.List.{List, []}
use Prim.Native.Nat.{ℕ, ◌<◌}
use native.Mathlib.Nat.{lt_of_le_of_lt}
use borrow.Author.Tests.{ltb-true, lt-ltb, eq-eqb}
use lib.Dec.{ltb}
use lib.IntN.{ℤ, pos}
use lib.ListN.{replicate}
use Rattle.answers.specs.Answer.{accepted}
use Rattle.answers.specs.declared.NodeValues.{NodeValues}
use Rattle.node.specs.Inputs.{input_count}
use Rattle.node.specs.Layout.{streams_of}
use Rattle.node.specs.Reads.{order_of}
use Rattle.node.specs.Verdict.{verdict_of}
use Rattle.node.proofs.WellFormedness.{accepted_well_formed}
use Rattle.streams.specs.Instant.{input_fits}
use Rattle.streams.specs.Nodes.{node_of}
use Rattle.streams.specs.Solutions.{Streams}
use Rattle.streams.specs.Typing.{TypedInstant, TypedInputs}
use Rattle.streams.proofs.AcceptedNodes.{worked_out_solves}
use Rattle.streams.proofs.Agreement.{AllRows, agree_until}
use Rattle.streams.proofs.Evaluations.{instants_rows}
use Rattle.streams.proofs.Orders.{place_of, ranked_by_place, worked_out_order_is}
use Rattle.session.proofs.CallAnswers.{typed_inputs, typed}
use Rattle.session.proofs.Judging.{noughts_typed}
use Rattle.histories.specs.History.{inputs_at, count_ok, bad_input, endless, history_values}
use Rattle.histories.specs.Theorems.{TypedHistory, SolvesHistory, HistoriesMean}
use Rattle.histories.proofs.Parts.{counted, is_count, part_count, each, none_of_each}
use Rattle.std.specs.Prelude.{None}

module _ (file : List ℕ) {node : NodeValues} (e : verdict_of file ≡ accepted node) (count : ℕ) (inputs : List ℤ) where
  abbrev at : ℕ → List ℤ
  at = inputs_at (input_count file) inputs

  passes : TypedHistory file count inputs → (count_ok count (input_count file) inputs ≡ true) × (bad_input file inputs count ≡ None)
  unfolding input_fits
  passes h = (counted count (input_count file) inputs h.counted, none_of_each file inputs count (λ t l. typed_inputs file (at t) (h.typed t l)))

  passed : count_ok count (input_count file) inputs ≡ true → bad_input file inputs count ≡ None → TypedHistory file count inputs
  unfolding input_fits
  passed c b =
      let size = is_count count (input_count file) inputs c in
      record {
        counted = size;
        typed = λ t l.
            typed file e (record { inputs = at t; slice = [] })
            (eq-eqb _ _ (part_count count (input_count file) inputs t size l))
            (each file inputs count b t l);
      }

  endless_typed : TypedHistory file count inputs → TypedInputs (node_of file) (endless (input_count file) count inputs)
  endless_typed h t = go (ltb t count) refl
    where
      go : (b : Bool) → ltb t count ≡ b → TypedInstant (node_of file) (cond b (at t) (replicate (input_count file) (pos 0)))
      go true p = h.typed t (ltb-true t count p)
      go false p = noughts_typed file

  pub starts_with : (t : ℕ) → t < count → endless (input_count file) count inputs t ≡ at t
  starts_with t l = rw (lt-ltb t count l) refl

  solved : TypedHistory file count inputs → SolvesHistory file count inputs (history_values file count inputs)
  unfolding history_values
  solved h =
      let typed = endless_typed h in
      record {
        endless = endless (input_count file) count inputs;
        typed = typed;
        starts = starts_with;
        solves = worked_out_solves (node_of file) (accepted_well_formed file e) (endless (input_count file) count inputs) typed;
      }

  -- the values worked out keep every row, typed or not
  pub values_rows : AllRows (node_of file) (endless (input_count file) count inputs) (history_values file count inputs)
  unfolding history_values
  values_rows =
      let wf = accepted_well_formed file e in
      instants_rows (node_of file) (place_of (node_of file)) (order_of file) (worked_out_order_is (node_of file) wf) (endless (input_count file) count inputs)

  only : (v : Streams) → SolvesHistory file count inputs v → (t s : ℕ) → t < count → s < streams_of file → v t s ≡ history_values file count inputs t s
  only v h t s l =
      agree_until (node_of file) (place_of (node_of file)) (ranked_by_place (node_of file) (accepted_well_formed file e)) h.endless (endless (input_count file) count inputs) v (history_values file count inputs) h.solves.holds values_rows t
      (λ j m. h.starts j (lt_of_le_of_lt m l) ∙ sym (starts_with j (lt_of_le_of_lt m l))) s

pub histories_mean : HistoriesMean
histories_mean file node e count inputs =
    record {
      passes = passes file e count inputs;
      passed = passed file e count inputs;
      solved = solved file e count inputs;
      only = only file e count inputs;
    }
