-- Where each operand needed now is lower than its record, the worked-out order is that of the records.
-- Assumes nothing.
use mathlib.Core.Path.{◌≡◌, refl, sym, ◌∙◌, ap}
use mathlib.Core.Logic.{⊎_elim}
use mathlib.Core.Bool.{true, false, not}
use mathlib.Core.List.{List, [], ◌∷◌}
use Prim.Native.Nat.{ℕ, zero, suc, ◌<◌, ◌≤◌}
use native.Mathlib.Nat.{not-suc-le-zero, eq-or-lt_of_le, le_of_suc-le-suc, le_refl}
use native.Mathlib.Omega.{arith}
use borrow.Author.Tests.{eq-eqb, ne_eqb}
use lib.Dec.{eqb}
use lib.ListN.{length, get_or, length-append, get_or-append}
use lib.Seq.{get_or_at}
use Rattle.answers.proofs.Lowest.{found}
use Rattle.node.specs.Order.{is_among, all_among, is_ready, lowest_ready, followed_by, order_after, order_by, up_to}
use Rattle.node.proofs.Different.{among_append, or_left, or_right}
use Rattle.std.specs.Prelude.{Some}

pub up_to_length : (n : ℕ) → length (up_to n) ≡ n
unfolding up_to
up_to_length zero = refl
up_to_length (suc n) = length-append (up_to n) (n ∷ []) ∙ omega (arith, up_to_length n)

pub up_to_at : (n k : ℕ) → k < n → get_or (up_to n) k 0 ≡ k
unfolding up_to
up_to_at zero k l = absurd (not-suc-le-zero l)
up_to_at (suc n) k l =
    ⊎_elim (λ (e : k ≡ n). rw e (get_or_at (up_to n) n [] 0 n (up_to_length n)))
    (λ (m : k < n). get_or-append (up_to n) (n ∷ []) 0 k (omega (arith, up_to_length n)) ∙ up_to_at n k m)
    (eq-or-lt_of_le (le_of_suc-le-suc l))

pub up_to_has : (n x : ℕ) → x < n → is_among (up_to n) x ≡ true
unfolding up_to
up_to_has zero x l = absurd (not-suc-le-zero l)
up_to_has (suc n) x l =
    among_append (up_to n) n x
    ∙ ⊎_elim (λ (e : x ≡ n). or_right (is_among (up_to n) x) (eq-eqb n x (sym e)))
    (λ (m : x < n). or_left (eqb n x) (up_to_has n x m))
    (eq-or-lt_of_le (le_of_suc-le-suc l))

up_to_has_no : (n x : ℕ) → n ≤ x → is_among (up_to n) x ≡ false
unfolding up_to is_among
up_to_has_no zero x l = refl
up_to_has_no (suc n) x l =
    among_append (up_to n) n x ∙ rw (up_to_has_no n x (omega arith)) (ne_eqb n x (λ p. omega arith))

module _ (needs : ℕ → List ℕ) (n : ℕ) (lower : (i x : ℕ) → i < n → is_among (needs i) x ≡ true → x < i) where
  all_below : (order needed : List ℕ) → ((x : ℕ) → is_among needed x ≡ true → is_among order x ≡ true) → all_among order needed ≡ true
  unfolding is_among
  all_below order [] h = refl
  all_below order (y ∷ needed) h =
      rw (h y (or_left (is_among needed y) (eq-eqb y y refl))) (all_below order needed (λ x e. h x (or_right (eqb y x) e)))

  -- record k is the lowest that is not placed, and it is ready
  next : (k : ℕ) → k < n → lowest_ready needs n (up_to k) ≡ Some k
  unfolding lowest_ready is_ready
  next k l =
      found (λ i. not (is_ready needs (up_to k) i)) n k l
      (λ i m. rw (up_to_has k i m))
      (rw (up_to_has_no k k (le_refl k), all_below (up_to k) (needs k) (λ x e. up_to_has k x (lower k x l e))))

  after_turns : (k : ℕ) → k ≤ n → order_after needs n k ≡ up_to k
  unfolding order_after up_to
  after_turns zero l = refl
  after_turns (suc k) l =
      rw (after_turns k (omega arith)) (ap (followed_by (up_to k)) (next k l))

  pub record_order : order_by needs n ≡ up_to n
  record_order = after_turns n (le_refl n)
