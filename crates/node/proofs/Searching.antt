-- The search for the order, one record after another: what the reader's arrays hold after k turns, and what they say at the end.
-- Assumes nothing.
use mathlib.Core.Path.{◌≡◌, refl, sym, ◌∙◌, ap, subst}
use mathlib.Core.Bool.{Bool, true, not}
use mathlib.Core.List.{List, [], ◌∷◌, ◌++◌}
use Prim.Native.Nat.{ℕ, suc, ◌+◌, ◌<◌, ◌≤◌}
use native.Mathlib.Nat.{not-suc-le-zero}
use native.Mathlib.Numerals.{add-one}
use native.Mathlib.Decide.{ℕ_discrete}
use native.Mathlib.Omega.{arith}
use lib.ListN.{length, get_or, set, take, replicate, length-set, length-replicate, length-append, get_or-append}
use lib.Seq.{ext_get_or, get_or-set_same, get_or-set_other, get_or-take, length-take-le, get_or-append_seam}
use Rattle.answers.specs.Checks.{every, lowest}
use Rattle.answers.proofs.Every.{every_all}
use Rattle.answers.proofs.Lowest.{all, lowest_same}
use Rattle.node.specs.declared.reading.RecordRule.TheVariants.{Shape, Operands}
use Rattle.node.specs.Equations.{equation_at}
use Rattle.node.specs.Layout.{record_of}
use Rattle.node.specs.Order.{is_among, is_ready, lowest_ready, followed_by, order_after, order_by}
use Rattle.node.specs.declared.ordering.Needs.{Needs}
use Rattle.node.specs.Ordering.{HoldNeeds, is_placed, ready_by}
use Rattle.node.specs.Reads.{needs_of, worked_out_order}
use Rattle.node.specs.Verdict.{passes_of, never_placed}
use Rattle.node.proofs.Flags.{Flagging, none_placed, flagging_none, flagging_more, ready_is}
use Rattle.node.proofs.Placing.{next_ready, full_size}
use Rattle.std.specs.Prelude.{None, Some}

module _ (file : List ℕ) (n : ℕ) where
  -- the order after k turns
  abbrev so_far : ℕ → List ℕ
  so_far k = order_after (needs_of file) n k

  -- the arrays hold it
  pub record Searching (streams : List ℕ) (flags : List Bool) (k : ℕ) : Type 0 where
    pub within : k ≤ n
    pub room : length streams ≡ 64
    pub size : length (so_far k) ≡ k
    pub streams_are : (x : ℕ) → x < k → get_or streams x 0 ≡ get_or (so_far k) x 0
    pub flagging : Flagging flags (so_far k)

  pub searching_start : Searching (replicate 64 0) none_placed 0
  unfolding order_after
  searching_start =
      record {
        within = omega arith;
        room = length-replicate {A = ℕ} 64 0;
        size = refl;
        streams_are = λ x l. absurd (not-suc-le-zero l);
        flagging = flagging_none;
      }

  module _ (streams : List ℕ) (flags : List Bool) (k : ℕ) (searching : Searching streams flags k) where
    -- the search of a turn is the definition's
    module _ (needs : List Needs) (few : n ≤ 64) (shapes : every (passes_of file n Shape) n ≡ true) (operands : every (passes_of file n Operands) n ≡ true) (hold : HoldNeeds file n needs) where
      pub next_is : lowest (λ i. not (ready_by flags needs i)) n ≡ lowest_ready (needs_of file) n (so_far k)
      unfolding lowest_ready is_ready
      next_is =
          lowest_same (λ i. not (ready_by flags needs i)) (λ i. not (is_ready (needs_of file) (so_far k) i)) n
          (λ i l. ap not (ready_is flags (so_far k) searching.flagging n few (record_of file i) (every_all (passes_of file n Shape) n shapes i l) (every_all (passes_of file n Operands) n operands i l) needs i (omega arith) (hold i l)))

    -- one record more
    module _ (i : ℕ) (few : n ≤ 64) (l : k < n) (next : lowest_ready (needs_of file) n (so_far k) ≡ Some i) where
      pub next_below : i < n
      next_below = (next_ready (needs_of file) n (so_far k) i next).0

      more_is : so_far (suc k) ≡ so_far k ++ (i ∷ [])
      unfolding order_after
      more_is = ap (followed_by (so_far k)) next

      more_size : length (so_far (suc k)) ≡ suc k
      more_size = ap length more_is ∙ length-append (so_far k) (i ∷ []) ∙ omega (arith, searching.size)

      streams_more : (x : ℕ) → x < suc k → get_or (set streams k i) x 0 ≡ get_or (so_far k ++ (i ∷ [])) x 0
      streams_more x m = go (ℕ_discrete x k)
        where
          go : Dec (x ≡ k) → get_or (set streams k i) x 0 ≡ get_or (so_far k ++ (i ∷ [])) x 0
          go (yes p) =
              rw p
              (get_or-set_same streams k i 0 (omega (arith, searching.room))
              ∙ sym (ap (λ (y : ℕ). get_or (so_far k ++ (i ∷ [])) y 0) (sym searching.size) ∙ get_or-append_seam (so_far k) i [] 0))
          go (no d) =
              let b : x < k = omega (arith, d) in
              get_or-set_other streams k x i 0 d ∙ searching.streams_are x b ∙ sym (get_or-append (so_far k) (i ∷ []) 0 x (omega (arith, searching.size)))

      pub searching_more : Searching (set streams k i) (set flags i true) (k + 1)
      searching_more =
          rw (add-one k)
          record {
            within = l;
            room = length-set streams k i ∙ searching.room;
            size = more_size;
            streams_are = λ x m. streams_more x m ∙ ap (λ (o : List ℕ). get_or o x 0) (sym more_is);
            flagging = subst (Flagging (set flags i true)) (sym more_is) (flagging_more flags (so_far k) searching.flagging i (omega (arith, next_below)) (length-set flags i true ∙ searching.flagging.size));
          }

    -- ---- at the end

    module _ (few : n ≤ 64) (ends : order_by (needs_of file) n ≡ so_far k) where
      pub unplaced_is : lowest (is_placed flags) n ≡ never_placed (worked_out_order (equation_at file) n) n
      unplaced_is =
          lowest_same (is_placed flags) (is_among (so_far k)) n (λ x l. searching.flagging.says x (omega arith))
          ∙ ap (λ (order : List ℕ). never_placed order n) (sym ends)

      pub streams_taken : never_placed (worked_out_order (equation_at file) n) n ≡ None → take n streams ≡ worked_out_order (equation_at file) n
      streams_taken none =
          let whole = full_size (needs_of file) n (all (is_among (worked_out_order (equation_at file) n)) n none) in
          let k-is : k ≡ n = sym searching.size ∙ ap length (sym ends) ∙ whole in
          let long = length-take-le n streams (omega (arith, searching.room)) in
          ext_get_or 0 (take n streams) (worked_out_order (equation_at file) n) (long ∙ sym whole)
          (λ x l. let m : x < n = rw long at l in rw get_or-take (searching.streams_are x (omega arith) ∙ ap (λ (o : List ℕ). get_or o x 0) (sym ends)))
