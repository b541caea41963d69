-- Where the search goes on: no record below is ready.
-- Assumes nothing.
use mathlib.Core.Path.{◌≡◌, refl, ◌∙◌, ap}
use mathlib.Core.Logic.{◌≢◌, ⊎_elim}
use mathlib.Core.Bool.{Bool, true, false, not, cond}
use mathlib.Core.List.{List, [], ◌∷◌}
use Prim.Native.Nat.{ℕ, zero, suc, ◌+◌, ◌<◌, ◌≤◌, zero-le}
use native.Mathlib.Nat.{eq-or-lt_of_le, le_refl}
use native.Mathlib.Omega.{arith}
use borrow.Author.Tests.{ltb-true, ltb-false}
use lib.Dec.{ltb}
use lib.ListN.{length, get_or, set}
use lib.Seq.{get_or-set_other}
use Rattle.answers.specs.Checks.{lowest}
use Rattle.answers.proofs.Lowest.{first}
use Rattle.node.specs.declared.ordering.Needs.{Needs}
use Rattle.node.specs.Ordering.{needs_at, HoldReaders, is_placed, ready_by, NoneReady, next_start}
use Rattle.node.proofs.Flags.{flagged_own}
use Rattle.node.proofs.Placing.{not_true_false}
use Rattle.std.specs.Prelude.{Some}

-- ---- who needs a stream

-- an entry stays, or is the new number
set_most : (readers : List ℕ) (at x : ℕ) {i j : ℕ} → get_or readers x 0 ≤ j → i ≤ j → get_or (set readers at i) x 0 ≤ j
set_most [] at x l m = l
set_most (r ∷ readers) zero zero l m = m
set_most (r ∷ readers) zero (suc x) l m = l
set_most (r ∷ readers) (suc at) zero l m = l
set_most (r ∷ readers) (suc at) (suc x) l m = set_most readers at x l m

-- the new number is read back, or nothing
set_own : (readers : List ℕ) (at i : ℕ) → get_or (set readers at i) at 0 ≤ i
set_own [] at i = zero-le
set_own (r ∷ readers) zero i = le_refl i
set_own (r ∷ readers) (suc at) i = set_own readers at i

-- record i is one of those that need its operands, and the lowest so far
pub readers_more : (needs : List Needs) (readers : List ℕ) (n i : ℕ) → HoldReaders needs n (i + 1) readers → HoldReaders needs n i (set (set (set readers (needs_at needs i).a i) (needs_at needs i).b i) (needs_at needs i).c i)
readers_more needs readers n i hold j l m =
    ⊎_elim (λ (e : i ≡ j). rw (← e) own)
    (λ (b : i < j). let old = hold j (omega arith) m in (kept (needs_at needs j).a old.0, kept (needs_at needs j).b old.1, kept (needs_at needs j).c old.2))
    (eq-or-lt_of_le l)
  where
    a : ℕ
    a = (needs_at needs i).a

    b : ℕ
    b = (needs_at needs i).b

    c : ℕ
    c = (needs_at needs i).c

    one : List ℕ
    one = set readers a i

    two : List ℕ
    two = set one b i

    kept : (x : ℕ) → get_or readers x 0 ≤ j → get_or (set two c i) x 0 ≤ j
    kept x h = set_most two c x (set_most one b x (set_most readers a x h l) l) l

    own : (get_or (set two c i) a 0 ≤ i) × (get_or (set two c i) b 0 ≤ i) × (get_or (set two c i) c 0 ≤ i)
    own = (
      set_most two c a (set_most one b a (set_own readers a i) (le_refl i)) (le_refl i),
      set_most two c b (set_own one b i) (le_refl i),
      set_own two c i,
    )

-- ---- what is not ready stays so until one that it needs is placed

module _ (flags : List Bool) (needs : List Needs) (i : ℕ) where
  abbrev after : List Bool
  after = set flags i true

  same_flag : (x : ℕ) → x ≢ i → is_placed after x ≡ is_placed flags x
  same_flag x n = get_or-set_other flags i x true false n

  -- a record that does not need i
  unmoved : (k : ℕ) → k ≢ i → (needs_at needs k).a ≢ i → (needs_at needs k).b ≢ i → (needs_at needs k).c ≢ i → ready_by after needs k ≡ ready_by flags needs k
  unfolding ready_by
  unmoved k own a b c = rw (same_flag k own, same_flag _ a, same_flag _ b, same_flag _ c)

  placed : i < length flags → ready_by after needs i ≡ false
  unfolding ready_by
  placed l = rw (flagged_own flags i l)

  module _ (readers : List ℕ) (n : ℕ) (hold : HoldReaders needs n 0 readers) (room : i < length flags) (below : i < n) (none : NoneReady flags needs i) where
    -- a record below i and below all that need i
    lower_waits : (k : ℕ) → k < i → k < get_or readers i 0 → ready_by after needs k ≡ false
    lower_waits k l m =
        let old = hold k (omega arith) (omega arith) in
        unmoved k (λ e. omega arith) (λ e. omega (arith, ap (λ (x : ℕ). get_or readers x 0) e, old.0)) (λ e. omega (arith, ap (λ (x : ℕ). get_or readers x 0) e, old.1)) (λ e. omega (arith, ap (λ (x : ℕ). get_or readers x 0) e, old.2))
        ∙ none k l

    pub start_moves : NoneReady after needs (next_start i (get_or readers i 0))
    start_moves = go (ltb (get_or readers i 0) i) refl
      where
        go : (b : Bool) → ltb (get_or readers i 0) i ≡ b → NoneReady after needs (cond b (get_or readers i 0) (i + 1))
        go true e =
            let low = ltb-true (get_or readers i 0) i e in
            λ k l. lower_waits k (omega arith) l
        go false e =
            let high = ltb-false (get_or readers i 0) i e in
            λ k l. ⊎_elim (λ (p : k ≡ i). rw p (placed room)) (λ (m : k < i). lower_waits k m (omega arith)) (eq-or-lt_of_le (omega arith))

-- the lowest that is ready: none below it is
pub none_below : (flags : List Bool) (needs : List Needs) (n i : ℕ) → lowest (λ k. not (ready_by flags needs k)) n ≡ Some i → NoneReady flags needs i
none_below flags needs n i e k l = not_true_false (ready_by flags needs k) ((first (λ j. not (ready_by flags needs j)) n i e).before k l)
