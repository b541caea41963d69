-- The array after an instant's evaluation keeps every row, along any order of the streams; so it holds a solution's values.
-- Assumes nothing.
use mathlib.Core.Path.{◌≡◌, refl, sym, ◌∙◌, ap}
use mathlib.Core.Logic.{◌⊎◌, inl, inr, ◌≢◌}
use mathlib.Core.Bool.{Bool, true, false}
use mathlib.Core.List.{List, []}
use Prim.Native.Nat.{ℕ, zero, suc, ◌<◌, ◌≤◌}
use native.Mathlib.Nat.{not-suc-le-zero, eq-or-lt_of_le, le_of_suc-le-suc, le_refl}
use native.Mathlib.Omega.{arith}
use lib.IntN.{ℤ, pos}
use lib.ListN.{length, get_or, replicate, length-set, length-replicate}
use lib.Seq.{get_or-set_same, get_or-set_other}
use Rattle.streams.specs.Evaluation.{evaluated, instant, instants}
use Rattle.streams.specs.Nodes.{Node}
use Rattle.streams.specs.Solutions.{Streams, before, row, Solution}
use Rattle.streams.specs.Typing.{Inputs}
use Rattle.streams.specs.Values.{Values, values_in}
use Rattle.streams.proofs.Agreement.{RowsTo, Rows, AllRows, SamePast, row_same, agree_to, agree, agree_until}
use Rattle.streams.proofs.Orders.{Order}

module _ (node : Node) (order : List ℕ) (inputs : List ℤ) (first : Bool) where
  pub evaluated_length : (past : Values) (start : List ℤ) (k : ℕ) → length (evaluated node order inputs first past start k) ≡ length start
  unfolding evaluated
  evaluated_length past start zero = refl
  evaluated_length past start (suc k) =
      length-set (evaluated node order inputs first past start k) (get_or order k 0) _ ∙ evaluated_length past start k

  pub instant_length : (past : List ℤ) → length (instant node order inputs first past) ≡ node.streams
  unfolding instant
  instant_length past =
      evaluated_length (values_in past) (replicate node.streams (pos 0)) (length order)
      ∙ length-replicate node.streams (pos 0)

module _ (node : Node) (rank : ℕ → ℕ) (order : List ℕ) (is : Order node rank order) where
  module _ (inputs : List ℤ) (first : Bool) (past : Values) (start : List ℤ) (room : node.streams ≤ length start) where
    -- the array after the first k streams
    abbrev so_far : ℕ → List ℤ
    so_far k = evaluated node order inputs first past start k

    -- one stream more: streams of other ranks keep their values
    other : (k s : ℕ) → k < length order → rank s ≢ k → values_in (so_far (suc k)) s ≡ values_in (so_far k) s
    unfolding evaluated
    other k s l n = get_or-set_other (so_far k) (get_or order k 0) s _ (pos 0) (λ e. n (ap rank e ∙ is.rank_at k l))

    -- .. and the row of a stream of this rank or a lower one, which reads only lower ones now, keeps its value
    row_kept : (k s : ℕ) → k < length order → s < node.streams → rank s ≤ k → row node inputs first past s (values_in (so_far (suc k))) ≡ row node inputs first past s (values_in (so_far k))
    row_kept k s l b h =
        row_same node rank is.ranked inputs first past _ past _ s b
        (λ r ok now. other k r.stream l (omega (arith, ok.lower now)))
        (λ e i m. refl)

    -- the stream itself has its row's value
    own : (k s : ℕ) → k < length order → s < node.streams → rank s ≡ k → values_in (so_far (suc k)) s ≡ row node inputs first past s (values_in (so_far k))
    unfolding evaluated
    own k s l b e =
        let at : get_or order k 0 ≡ s = ap (λ (j : ℕ). get_or order j 0) (sym e) ∙ is.at_rank s b in
        rw at (get_or-set_same (so_far k) s _ (pos 0) (omega (arith, evaluated_length node order inputs first past start k)))

    pub evaluated_rows : (k : ℕ) → k ≤ length order → RowsTo node rank inputs first past (values_in (so_far k)) k
    evaluated_rows zero l s b h = absurd (not-suc-le-zero h)
    evaluated_rows (suc k) l s b h = go (eq-or-lt_of_le (le_of_suc-le-suc h)) (evaluated_rows k (omega arith) s b)
      where
        go : (rank s ≡ k) ⊎ (rank s < k) → (rank s < k → values_in (so_far k) s ≡ row node inputs first past s (values_in (so_far k))) → values_in (so_far (suc k)) s ≡ row node inputs first past s (values_in (so_far (suc k)))
        go (inl e) before = own k s l b e ∙ sym (row_kept k s l b (omega arith))
        go (inr m) before = other k s l (omega arith) ∙ before m ∙ sym (row_kept k s l b (omega arith))

    -- the array so far holds the values of all streams of lower ranks, whatever values keep the rows ..
    pub evaluated_is : (p v : Values) → SamePast node first past p → Rows node inputs first p v → (k : ℕ) → k ≤ length order → (s : ℕ) → s < node.streams → rank s < k → values_in (so_far k) s ≡ v s
    evaluated_is p v same rows k l =
        agree_to node rank is.ranked inputs first past (values_in (so_far k)) p v same k (evaluated_rows k l) (λ s b h. rows s b)

    -- .. and the next stream's row gives its value
    pub next_value : (p v : Values) → SamePast node first past p → Rows node inputs first p v → (k : ℕ) → k < length order → row node inputs first past (get_or order k 0) (values_in (so_far k)) ≡ v (get_or order k 0)
    next_value p v same rows k l =
        let b : get_or order k 0 < node.streams = is.names k l in
        row_same node rank is.ranked inputs first past (values_in (so_far k)) p v (get_or order k 0) b
        (λ r ok now. evaluated_is p v same rows k (omega arith) r.stream ok.below (omega (arith, ok.lower now, is.rank_at k l)))
        same
        ∙ sym (rows (get_or order k 0) b)

  -- one instant keeps every row
  pub instant_rows : (inputs : List ℤ) (first : Bool) (past : List ℤ) → Rows node inputs first (values_in past) (values_in (instant node order inputs first past))
  unfolding instant
  instant_rows inputs first past s b =
      evaluated_rows inputs first (values_in past) (replicate node.streams (pos 0)) (omega (arith, length-replicate {A = ℤ} node.streams (pos 0))) (length order) (le_refl (length order)) s b (is.within s b)

  -- and so do the instants, one from another
  pub instants_rows : (inputs : Inputs) → AllRows node inputs (λ t. values_in (instants node order inputs t))
  unfolding instants
  instants_rows inputs zero = instant_rows (inputs zero) true []
  instants_rows inputs (suc t) = instant_rows (inputs (suc t)) false (instants node order inputs t)

  -- one instant from the values before gives the values that keep the rows
  pub instant_is : (inputs : List ℤ) (first : Bool) (past : List ℤ) (p v : Values) → SamePast node first (values_in past) p → Rows node inputs first p v → (s : ℕ) → s < node.streams → values_in (instant node order inputs first past) s ≡ v s
  instant_is inputs first past p v same rows =
      agree node rank is.ranked inputs first (values_in past) (values_in (instant node order inputs first past)) p v same (instant_rows inputs first past) rows

  -- the evaluation of instants 0 to t ends with the solution's values at t
  pub evaluation_is : (inputs : Inputs) (values : Streams) → Solution node inputs values → (t s : ℕ) → s < node.streams → values_in (instants node order inputs t) s ≡ values t s
  evaluation_is inputs values solution t =
      agree_until node rank is.ranked inputs inputs (λ j. values_in (instants node order inputs j)) values (instants_rows inputs) solution.holds t (λ j l. refl)
