-- One instant worked out in an array, stream by stream along the worked-out order: the array holds the instant's values so far, and
-- each stream's value is its row's from the values before it.
-- Assumes nothing.
use mathlib.Core.Path.{◌≡◌, refl, sym, ◌∙◌, ap, fun_ext}
use mathlib.Core.Logic.{◌⊎◌, inl, inr}
use mathlib.Core.Bool.{Bool, true, false, cond}
use mathlib.Core.List.{List}
use Prim.Native.Nat.{ℕ, zero, suc, ◌+◌, ◌<◌, ◌≤◌}
use native.Mathlib.Nat.{not-suc-le-zero, eq-or-lt_of_le, le_of_suc-le-suc, le_refl}
use native.Mathlib.Numerals.{add-one}
use native.Mathlib.Decide.{ℕ_discrete}
use native.Mathlib.Omega.{arith}
use lib.IntN.{ℤ, pos}
use lib.ListN.{length, get_or, set, replicate, length-replicate}
use lib.Seq.{get_or-set_same, get_or-set_other}
use borrow.Author.Count.{below_none, below_more}
use Rattle.answers.specs.Checks.{lowest, or_else}
use Rattle.answers.proofs.Lowest.{found}
use Rattle.integers.specs.Range.{inside, checked_of}
use Rattle.integers.proofs.Within.{outside_is}
use Rattle.node.specs.Equations.{equation_at}
use Rattle.node.specs.Layout.{streams_of}
use Rattle.node.specs.Order.{place_in}
use Rattle.node.specs.Reads.{order_of, Ordered}
use Rattle.streams.specs.Evaluation.{worked, evaluated, instant}
use Rattle.streams.specs.Instant.{instant_of, value_inside, at_place, first_of, first_along, filled}
use Rattle.streams.specs.Nodes.{node_of}
use Rattle.streams.specs.Values.{values_in}
use Rattle.streams.proofs.Evaluations.{evaluated_length}
use Rattle.streams.proofs.Filled.{same_everywhere, is_filled}
use Rattle.std.specs.Prelude.{None, Option, Some}

-- a checked value that is there is the number, which is inside
value_number : (z v : ℤ) → checked_of z ≡ Some v → (inside z ≡ true) × (v ≡ z)
unfolding checked_of
value_number z v = go (inside z)
  where
    go : (b : Bool) → cond b (Some z) None ≡ Some v → (b ≡ true) × (v ≡ z)
    go true e = (refl, cc)
    go false e = cc

-- the first of an order, with one more
first_more : (order : List ℕ) (ok : ℕ → Bool) (k : ℕ) → first_of order ok (k + 1) ≡ or_else (first_of order ok k) (ok (get_or order k 0)) (get_or order k 0)
unfolding first_of lowest
first_more order ok k = rw (add-one k) (go (lowest (λ j. ok (get_or order j 0)) k) (ok (get_or order k 0)))
  where
    go : (f : Option ℕ) (b : Bool) → at_place order (or_else f b k) ≡ or_else (at_place order f) b (get_or order k 0)
    go (Some j) b = refl
    go None true = refl
    go None false = refl

pub first_none : (order : List ℕ) (ok : ℕ → Bool) → first_of order ok 0 ≡ None
unfolding first_of lowest
first_none order ok = refl

module _ (file : List ℕ) (inputs : List ℤ) (first : Bool) (past : List ℤ) where
  -- the array after the first k streams
  abbrev so_far : (k : ℕ) → List ℤ
  so_far k =
      evaluated (node_of file) (order_of file) inputs first (values_in past) (replicate (streams_of file) (pos 0)) k

  -- the stream that is worked out as number k
  abbrev stream : (k : ℕ) → ℕ
  stream k = get_or (order_of file) k 0

  -- the value of stream i from the values of an array
  abbrev pub value_from : (i : ℕ) → (present : List ℤ) → ℤ
  value_from i present = worked (node_of file) inputs first (values_in past) i (values_in present)

  -- an array holds the values so far
  abbrev pub Holds : (present : List ℤ) → (k : ℕ) → Type 0
  Holds present k = (x : ℕ) → get_or present x (pos 0) ≡ get_or (so_far k) x (pos 0)

  -- whether 64 signed bits hold the value of the stream that is worked out as number k
  abbrev fits : (k : ℕ) → Bool
  fits k = value_inside (instant_of file inputs first past) (stream k)

  -- the first k streams fit, and the array holds the values so far
  abbrev pub WorkedTo : (present : List ℤ) → (k : ℕ) → Type 0
  WorkedTo present k = ((j : ℕ) → j < k → fits j ≡ true) × Holds present k

  -- the first so far that 64 signed bits do not hold
  abbrev pub outside_of : (k : ℕ) → Option ℕ
  outside_of k = first_of (order_of file) (value_inside (instant_of file inputs first past)) k

  -- where each of the first k fits, none of them is outside
  none_so_far : (k : ℕ) → ((j : ℕ) → j < k → fits j ≡ true) → outside_of k ≡ None
  none_so_far zero all = first_none (order_of file) (value_inside (instant_of file inputs first past))
  none_so_far (suc k) all =
      ap outside_of (sym (add-one k))
      ∙ first_more (order_of file) (value_inside (instant_of file inputs first past)) k
      ∙ rw (none_so_far k (λ j l. all j (omega arith)), all k (omega arith)) refl

  after_length : (k : ℕ) → length (so_far k) ≡ streams_of file
  after_length k =
      evaluated_length (node_of file) (order_of file) inputs first (values_in past) (replicate (streams_of file) (pos 0)) k
      ∙ length-replicate (streams_of file) (pos 0)

  pub holds_start : Holds (replicate 64 (pos 0)) 0
  unfolding evaluated
  holds_start x = same_everywhere 64 x (pos 0) ∙ sym (same_everywhere (streams_of file) x (pos 0))

  pub worked_start : WorkedTo (replicate 64 (pos 0)) 0
  worked_start = (below_none _, holds_start)

  module _ (ordered : Ordered (streams_of file) (equation_at file) (order_of file)) where
    instant_is : instant_of file inputs first past ≡ so_far (streams_of file)
    unfolding instant_of instant
    instant_is = ap so_far ordered.size

    -- a value that is set stays: no other turn is that stream's
    stays : (k j : ℕ) → k < j → j ≤ streams_of file → get_or (so_far j) (stream k) (pos 0) ≡ get_or (so_far (suc k)) (stream k) (pos 0)
    unfolding evaluated
    stays k zero l h = absurd (not-suc-le-zero l)
    stays k (suc j) l h = go (eq-or-lt_of_le (le_of_suc-le-suc l)) (λ m. stays k j m (omega arith))
      where
        go : (k ≡ j) ⊎ (k < j) → (k < j → get_or (so_far j) (stream k) (pos 0) ≡ get_or (so_far (suc k)) (stream k) (pos 0)) → get_or (so_far (suc j)) (stream k) (pos 0) ≡ get_or (so_far (suc k)) (stream k) (pos 0)
        go (inl e) before = ap (λ (i : ℕ). get_or (so_far (suc i)) (stream k) (pos 0)) (sym e)
        go (inr m) before =
            let other : stream k ≡ stream j → ⊥ = λ e. omega (arith, sym (ordered.once k (omega arith)) ∙ ap (place_in (order_of file)) e ∙ ordered.once j (omega arith)) in
            get_or-set_other (so_far j) (stream j) (stream k) _ (pos 0) other ∙ before m

    value_is_row : (k : ℕ) → k < streams_of file → values_in (instant_of file inputs first past) (stream k) ≡ value_from (stream k) (so_far k)
    unfolding evaluated
    value_is_row k l =
        ap (λ (v : List ℤ). values_in v (stream k)) instant_is
        ∙ stays k (streams_of file) l (le_refl (streams_of file))
        ∙ get_or-set_same (so_far k) (stream k) _ (pos 0) (omega (arith, after_length k, ordered.names k l))

    pub holds_end : (present : List ℤ) → streams_of file ≤ 64 → length present ≡ 64 → Holds present (streams_of file) → present ≡ filled 64 (pos 0) (instant_of file inputs first past)
    holds_end present few e holds =
        rw instant_is
        (is_filled 64 (pos 0) (so_far (streams_of file)) present e (omega (arith, after_length (streams_of file))) holds)

    pub worked_end : (present : List ℤ) → streams_of file ≤ 64 → length present ≡ 64 → WorkedTo present (streams_of file) → present ≡ filled 64 (pos 0) (instant_of file inputs first past)
    worked_end present few e so = holds_end present few e so.1

    pub none_outside : (present : List ℤ) → WorkedTo present (streams_of file) → first_along (order_of file) (value_inside (instant_of file inputs first past)) ≡ None
    none_outside present so = rw ordered.size (none_so_far (streams_of file) so.0)

    -- ---- one stream more

    module _ (present : List ℤ) (k : ℕ) (l : k < streams_of file) (so : WorkedTo present k) where
      -- what the code works out is the row's value
      made_is : value_from (stream k) present ≡ value_from (stream k) (so_far k)
      made_is = ap (worked (node_of file) inputs first (values_in past) (stream k)) (fun_ext so.1)

      fits_is : inside (value_from (stream k) present) ≡ fits k
      fits_is = ap inside (made_is ∙ sym (value_is_row k l))

      -- one that is not there is the first outside
      pub first_outside : checked_of (value_from (stream k) present) ≡ None → first_along (order_of file) (value_inside (instant_of file inputs first past)) ≡ Some (stream k)
      unfolding first_of
      first_outside e =
          rw ordered.size
          (ap (at_place (order_of file)) (found fits (streams_of file) k l so.0 (sym fits_is ∙ outside_is _ e)))

      -- one that is there is set
      pub worked_more : (v : ℤ) → checked_of (value_from (stream k) present) ≡ Some v → stream k < length present → WorkedTo (set present (stream k) v) (k + 1)
      unfolding evaluated
      worked_more v e room =
          let is = value_number _ v e in
          (below_more _ k so.0 (sym fits_is ∙ is.0), λ x. rw (add-one k) (go is.1 x (ℕ_discrete x (stream k))))
        where
          go : v ≡ value_from (stream k) present → (x : ℕ) → Dec (x ≡ stream k) → get_or (set present (stream k) v) x (pos 0) ≡ get_or (set (so_far k) (stream k) (value_from (stream k) (so_far k))) x (pos 0)
          go v_is x (yes p) =
              rw p
              (get_or-set_same present (stream k) _ (pos 0) room
              ∙ v_is
              ∙ made_is
              ∙ sym (get_or-set_same (so_far k) (stream k) _ (pos 0) (omega (arith, after_length k, ordered.names k l))))
          go v_is x (no n) = get_or-set_other present (stream k) x _ (pos 0) n ∙ so.1 x ∙ sym (get_or-set_other (so_far k) (stream k) x _ (pos 0) n)
