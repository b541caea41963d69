-- Some record is never placed just where a chain of operands needed now returns to its start.
-- Assumes nothing.
use mathlib.Core.Path.{◌≡◌, refl, sym, ◌∙◌, ap, subst}
use mathlib.Core.Bool.{Bool, true, false, ◌&&◌, ◌||◌, true≢false}
use mathlib.Core.List.{List, [], ◌∷◌}
use Prim.Native.Nat.{ℕ, zero, suc, ◌+◌, ◌<◌, ◌≤◌}
use native.Mathlib.Omega.{arith}
use borrow.Author.Tests.{eqb-true, eq-eqb}
use lib.Dec.{eqb}
use lib.ListN.{length}
use Rattle.node.specs.Order.{is_among, all_among, order_by, place_in, Chain, link, onto, Circle}
use Rattle.node.proofs.Different.{Distinct, bounded, or_left, or_right}
use Rattle.node.proofs.Placing.{sorted, waits}

-- one that is not among, of needed ones that are not all among
missing : (order needed : List ℕ) → all_among order needed ≡ false → (x : ℕ) × (is_among needed x ≡ true) × (is_among order x ≡ false)
unfolding is_among
missing order [] e = absurd (true≢false e)
missing order (y ∷ needed) e = go (is_among order y) refl e (missing order needed)
  where
    go : (b : Bool) → is_among order y ≡ b → (b && all_among order needed) ≡ false → (all_among order needed ≡ false → (x : ℕ) × (is_among needed x ≡ true) × (is_among order x ≡ false)) → (x : ℕ) × ((eqb y x || is_among needed x) ≡ true) × (is_among order x ≡ false)
    go false p h ih = (y, or_left (is_among needed y) (eq-eqb y y refl), p)
    go true p h ih = let found = ih h in (found.0, or_right (eqb y found.0) found.1, found.2)

module _ (needs : ℕ → List ℕ) (n : ℕ) where
  abbrev order : List ℕ
  order = order_by needs n

  -- along a chain places fall
  falls : {i x : ℕ} → Chain needs i x → is_among order i ≡ true → (is_among order x ≡ true) × (place_in order x < place_in order i)
  falls {i} {x} (link h) e = (sorted needs n n).after i x e h
  falls {i} {x} (onto {x = z} h chain) e =
      let a = (sorted needs n n).after i z e h in
      let b = falls chain a.0 in
      (b.0, omega (arith, a.1, b.1))

  -- so where a record is placed no chain returns to it
  pub placed_no_circle : (i : ℕ) → is_among order i ≡ true → Chain needs i i → ⊥
  placed_no_circle i e chain = let b = falls chain e in omega (arith, b.1)

  snoc : {i x y : ℕ} → Chain needs i x → is_among (needs x) y ≡ true → Chain needs i y
  snoc (link h) g = onto h (link g)
  snoc (onto h chain) g = onto h (snoc chain g)

  module _ (inside : (i x : ℕ) → i < n → is_among (needs i) x ≡ true → x < n) where
    -- From a record that is never placed to one that it needs and that is never placed, on and on: of n + 1 such records two are one.
    seek : (left i : ℕ) (seen : List ℕ) → i < n → is_among order i ≡ false → Distinct n (i ∷ seen) → ((v : ℕ) → is_among seen v ≡ true → Chain needs v i) → n < left + suc (length seen) → Circle needs n
    unfolding is_among Distinct
    seek zero i seen l u d chains h = absurd (over (bounded n (i ∷ seen) d))
      where
        over : suc (length seen) ≤ n → ⊥
        over b = omega arith
    seek (suc left) i seen l u d chains h = go (eqb i next) refl (is_among seen next) refl (seek left next (i ∷ seen))
      where
        found : (x : ℕ) × (is_among (needs i) x ≡ true) × (is_among order x ≡ false)
        found = missing order (needs i) (waits needs n i l u)

        next : ℕ
        next = found.0

        reach : (v : ℕ) → is_among (i ∷ seen) v ≡ true → Chain needs v next
        reach v t = from (eqb i v) refl t
          where
            from : (b : Bool) → eqb i v ≡ b → (b || is_among seen v) ≡ true → Chain needs v next
            from true e x = subst (λ (z : ℕ). Chain needs z next) (eqb-true i v e) (link found.1)
            from false e x = snoc (chains v x) found.1

        go : (a : Bool) → eqb i next ≡ a → (b : Bool) → is_among seen next ≡ b
            → (next < n → is_among order next ≡ false → Distinct n (next ∷ i ∷ seen) → ((v : ℕ) → is_among (i ∷ seen) v ≡ true → Chain needs v next) → n < left + suc (suc (length seen)) → Circle needs n)
            → Circle needs n
        go true e b q ih = (i, l, subst (λ (z : ℕ). Chain needs i z) (sym (eqb-true i next e)) (link found.1))
        go false e true q ih = (next, inside i next l found.1, snoc (chains next q) found.1)
        go false e false q ih =
            ih (inside i next l found.1) found.2 (inside i next l found.1, fresh, d) reach (omega arith)
          where
            fresh : is_among (i ∷ seen) next ≡ false
            fresh = ap (λ (x : Bool). x || is_among seen next) e ∙ q

    pub unplaced_circle : (i : ℕ) → i < n → is_among order i ≡ false → Circle needs n
    unfolding is_among Distinct
    unplaced_circle i l u = seek (suc n) i [] l u (l, refl, tt) (λ v t. absurd (true≢false (sym t))) (omega arith)
