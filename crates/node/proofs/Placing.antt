-- The worked-out order: its records are different, each stands after all that it needs now, and n turns place all that can be placed.
-- Assumes nothing.
use mathlib.Core.Path.{◌≡◌, refl, sym, ◌∙◌, ap, subst}
use mathlib.Core.Logic.{◌⊎◌, inl, inr, ⊎_elim}
use mathlib.Core.Bool.{Bool, true, false, not, ◌&&◌, false≢true, true≢false}
use mathlib.Core.List.{List, [], ◌∷◌, ◌++◌}
use Prim.Native.Nat.{ℕ, zero, suc, ◌<◌, ◌≤◌}
use native.Mathlib.Nat.{eq-or-lt_of_le, le_of_suc-le-suc}
use native.Mathlib.Omega.{arith}
use borrow.Author.Tests.{eqb-true}
use lib.Dec.{eqb}
use lib.ListN.{length, length-append}
use Rattle.answers.proofs.Lowest.{all, first}
use Rattle.answers.proofs.Tests.{both_true, either_true}
use Rattle.node.specs.Order.{is_among, all_among, is_ready, lowest_ready, followed_by, extended, order_after, order_by, place_in}
use Rattle.node.proofs.Different.{Distinct, distinct_more, among_append, or_left, place_below, place_stays, place_last, bounded, covers}
use Rattle.std.specs.Prelude.{None, Option, Some}

not_false_true : (b : Bool) → not b ≡ false → b ≡ true
not_false_true true e = refl
not_false_true false e = absurd (true≢false e)

pub not_true_false : (b : Bool) → not b ≡ true → b ≡ false
not_true_false true e = absurd (false≢true e)
not_true_false false e = refl

pub all_in : (order needed : List ℕ) (x : ℕ) → all_among order needed ≡ true → is_among needed x ≡ true → is_among order x ≡ true
unfolding is_among
all_in order [] x e h = absurd (false≢true h)
all_in order (y ∷ needed) x e h =
    let both = both_true (is_among order y) (all_among order needed) e in
    ⊎_elim (λ (p : eqb y x ≡ true). subst (λ (z : ℕ). is_among order z ≡ true) (eqb-true y x p) both.0)
    (λ (p : is_among needed x ≡ true). all_in order needed x both.1 p)
    (either_true (eqb y x) (is_among needed x) h)

module _ (needs : ℕ → List ℕ) (n : ℕ) where
  -- what holds of the order after any turns
  pub record Sorted (order : List ℕ) : Type 0 where
    pub distinct : Distinct n order
    pub after : (i x : ℕ) → is_among order i ≡ true → is_among (needs i) x ≡ true → (is_among order x ≡ true) × (place_in order x < place_in order i)

  ready_parts : (order : List ℕ) (i : ℕ) → is_ready needs order i ≡ true → (is_among order i ≡ false) × (all_among order (needs i) ≡ true)
  unfolding is_ready
  ready_parts order i e =
      let both = both_true (not (is_among order i)) (all_among order (needs i)) e in
      (not_true_false (is_among order i) both.0, both.1)

  -- one record more, where it is ready
  module _ (order : List ℕ) (i : ℕ) (sorted : Sorted order) (l : i < n) (ready : is_ready needs order i ≡ true) where
    abbrev more : List ℕ
    more = order ++ (i ∷ [])

    new : is_among order i ≡ false
    new = (ready_parts order i ready).0

    stays : (x : ℕ) → is_among order x ≡ true → is_among more x ≡ true
    stays x e = among_append order i x ∙ or_left (eqb i x) e

    after_old : (j x : ℕ) → is_among order j ≡ true → is_among (needs j) x ≡ true → (is_among more x ≡ true) × (place_in more x < place_in more j)
    after_old j x e h =
        let old = sorted.after j x e h in
        (stays x old.0, rw (place_stays order (i ∷ []) x old.0, place_stays order (i ∷ []) j e) old.1)

    after_new : (x : ℕ) → is_among (needs i) x ≡ true → (is_among more x ≡ true) × (place_in more x < place_in more i)
    after_new x h =
        let there = all_in order (needs i) x (ready_parts order i ready).1 h in
        (stays x there, rw (place_stays order (i ∷ []) x there, place_last order i new) (place_below order x there))

    sorted_more : Sorted more
    sorted_more =
        record {
          distinct = distinct_more n order i sorted.distinct l new;
          after = λ j x e h.
              ⊎_elim (λ (p : is_among order j ≡ true). after_old j x p h)
              (λ (p : eqb i j ≡ true). subst (λ (k : ℕ). is_among (needs k) x ≡ true → (is_among more x ≡ true) × (place_in more x < place_in more k)) (eqb-true i j p) (after_new x) h)
              (either_true (is_among order j) (eqb i j) (sym (among_append order i j) ∙ e));
        }

  -- the next record is ready and one of n
  pub next_ready : (order : List ℕ) (i : ℕ) → lowest_ready needs n order ≡ Some i → (i < n) × (is_ready needs order i ≡ true)
  unfolding lowest_ready
  next_ready order i e =
      let low = first (λ j. not (is_ready needs order j)) n i e in
      (low.below, not_false_true (is_ready needs order i) low.fails)

  pub sorted : (turns : ℕ) → Sorted (order_after needs n turns)
  unfolding order_after is_among Distinct
  sorted zero = record { distinct = tt; after = λ i x e h. absurd (false≢true e) }
  sorted (suc k) = go (lowest_ready needs n (order_after needs n k)) refl (sorted k)
    where
      go : (f : Option ℕ) → lowest_ready needs n (order_after needs n k) ≡ f → Sorted (order_after needs n k) → Sorted (followed_by (order_after needs n k) f)
      go (Some i) e s = let next = next_ready (order_after needs n k) i e in sorted_more (order_after needs n k) i s next.0 next.1
      go None e s = s

  -- ---- n turns are enough

  -- where nothing is ready the order rests
  pub rests : (k j : ℕ) → lowest_ready needs n (order_after needs n k) ≡ None → k ≤ j → order_after needs n j ≡ order_after needs n k
  unfolding order_after
  rests k zero e l = let p : zero ≡ k = omega arith in ap (order_after needs n) p
  rests k (suc j) e l = ⊎_elim (λ (p : k ≡ suc j). ap (order_after needs n) (sym p)) (λ (m : k < suc j). next (rests k j e (le_of_suc-le-suc m))) (eq-or-lt_of_le l)
    where
      next : order_after needs n j ≡ order_after needs n k → order_after needs n (suc j) ≡ order_after needs n k
      next p = ap (extended needs n) p ∙ ap (followed_by (order_after needs n k)) e

  -- after k turns nothing is ready, or there are k records
  turns_placed : (k : ℕ) → (lowest_ready needs n (order_after needs n k) ≡ None) ⊎ (length (order_after needs n k) ≡ k)
  unfolding order_after
  turns_placed zero = inr refl
  turns_placed (suc k) = go (lowest_ready needs n (order_after needs n k)) refl (turns_placed k)
    where
      go : (f : Option ℕ) → lowest_ready needs n (order_after needs n k) ≡ f → (lowest_ready needs n (order_after needs n k) ≡ None) ⊎ (length (order_after needs n k) ≡ k) → (lowest_ready needs n (followed_by (order_after needs n k) f) ≡ None) ⊎ (length (followed_by (order_after needs n k) f) ≡ suc k)
      go None e before = inl e
      go (Some i) e (inl none) = absurd (at_nothing (sym e ∙ none))
        where
          at_nothing : Some i ≡ None → ⊥
          at_nothing p = let z : ◌≡◌ {A = ℕ} 0 1 = cc in omega arith
      go (Some i) e (inr h) = inr (length-append (order_after needs n k) (i ∷ []) ∙ omega arith)

  -- after n turns nothing is ready
  pub stuck : lowest_ready needs n (order_by needs n) ≡ None
  stuck = ⊎_elim (λ e. e) (λ h. full h (lowest_ready needs n (order_by needs n)) refl) (turns_placed n)
    where
      full : length (order_by needs n) ≡ n → (f : Option ℕ) → lowest_ready needs n (order_by needs n) ≡ f → f ≡ None
      full h None e = refl
      full h (Some i) e =
          let next = next_ready (order_by needs n) i e in
          let all_different = (sorted_more (order_by needs n) i (sorted n) next.0 next.1).distinct in
          absurd (over (bounded n (order_by needs n ++ (i ∷ [])) all_different))
        where
          over : length (order_by needs n ++ (i ∷ [])) ≤ n → ⊥
          over l = omega (arith, h, length-append (order_by needs n) (i ∷ []))

  -- a record that is never placed needs one that is never placed
  pub waits : (i : ℕ) → i < n → is_among (order_by needs n) i ≡ false → all_among (order_by needs n) (needs i) ≡ false
  unfolding lowest_ready is_ready
  waits i l e =
      rest (is_among (order_by needs n) i) (all_among (order_by needs n) (needs i)) e
      (not_true_false (is_ready needs (order_by needs n) i) (all (λ j. not (is_ready needs (order_by needs n) j)) n stuck i l))
    where
      rest : (a b : Bool) → a ≡ false → (not a && b) ≡ false → b ≡ false
      rest true b p q = absurd (true≢false p)
      rest false b p q = q

  -- an order with all n records has n
  pub full_size : ((i : ℕ) → i < n → is_among (order_by needs n) i ≡ true) → length (order_by needs n) ≡ n
  full_size h = omega (arith, bounded n (order_by needs n) (sorted n).distinct, covers n (order_by needs n) h)
