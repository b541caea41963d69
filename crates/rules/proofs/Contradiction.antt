-- An accepted arithmetic line: its literals' opposites cannot all hold. Their sum would say that 0 is at most −1.
-- Assumes nothing.
use mathlib.Core.Path.{◌≡◌, subst}
use mathlib.Core.Bool.{Bool, true, false, cond, ◌&&◌}
use Prim.Native.Nat.{ℕ, zero, suc, ◌≤◌, ◌<◌}
use native.Mathlib.Nat.{le_refl}
use native.Mathlib.Omega.{arith}
use borrow.Author.Tests.{leb-true}
use lib.Dec.{leb}
use lib.IntN.{ℤ, pos, neg_ℤ, ◌*ℤ◌}
use lib.Signed.{le_z, ◌≤ℤ◌}
use Rattle.integers.proofs.Order.{≤ℤ-trans, ≤ℤ_refl, +ℤ-mono, *ℤ-mono, le_z_true}
use Rattle.answers.specs.Checks.{every}
use Rattle.answers.proofs.Every.{every_all}
use Rattle.answers.proofs.Tests.{both_true}
use Rattle.constraints.specs.Layout.{Constraint, Line, used_in, listed_in}
use Rattle.constraints.specs.Linear.{Bounded, coefficient, total, scaled, negated, written, bounded_of, same_z}
use Rattle.constraints.proofs.Totals.{total_append, total_scaled, Below, below_append, below_scaled, vanishes}
use Rattle.literals.specs.Literals.{atom_of, is_negated, is_constraint, constraint_number}
use Rattle.rules.specs.Arithmetic.{opposite_says, sum_of, arithmetic_ok}
use Rattle.rules.specs.Limited.{Named}
use Rattle.rules.proofs.Contents.{same_means}

-- ---- the sum of opposites that hold, holds

module _ (constraints : ℕ → Constraint) (line : Line) where
  abbrev opposite : ℕ → Bounded
  opposite j = opposite_says constraints (line.literal j)

  pub sum_holds : (w : ℕ → ℤ) (n : ℕ) → ((j : ℕ) → j < n → total (opposite j).form w ≤ℤ (opposite j).bound)
      → total (sum_of constraints line n).form w ≤ℤ (sum_of constraints line n).bound
  unfolding sum_of
  sum_holds w zero h = ≤ℤ_refl (pos 0)
  sum_holds w (suc n) h =
      let m = pos (line.multiplier n) in
      rw (
        total_append w (scaled m (opposite n).form) (sum_of constraints line n).form,
        total_scaled w m (opposite n).form,
      )
      (+ℤ-mono (m *ℤ total (opposite n).form w) (m *ℤ (opposite n).bound) (total (sum_of constraints line n).form w)
      (sum_of constraints line n).bound
      (*ℤ-mono (line.multiplier n) (total (opposite n).form w) (opposite n).bound (h n (le_refl (suc n))))
      (sum_holds w n (λ j l. h j (omega arith))))

-- ---- the line's variables

pub below_written : (c : Constraint) (n : ℕ) → Named c n → Below 576 (written c n)
unfolding written
below_written c zero h = tt
below_written c (suc n) h = (h n (le_refl (suc n)), below_written c n (λ i l. h i (omega arith)))

below_opposite : (c : Bounded) → Below 576 c.form → (t : Bool) → Below 576 (cond t c (negated c)).form
below_opposite c b true = b
below_opposite c b false = below_scaled 576 (neg_ℤ (pos 1)) c.form b

module _ (constraints : ℕ → Constraint) (line : Line) where
  -- the constraint that literal j is on
  abbrev on : ℕ → Constraint
  on j = constraints (constraint_number (atom_of (line.literal j)))

  pub sum_below : (n : ℕ) → ((j : ℕ) → j < n → Named (on j) (used_in (on j))) → Below 576 (sum_of constraints line n).form
  unfolding sum_of
  sum_below zero h = tt
  sum_below (suc n) h =
      let c = bounded_of (on n) in
      let form = (cond (is_negated (line.literal n)) c (negated c)).form in
      let low = below_written (on n) (used_in (on n)) (h n (le_refl (suc n))) in
      below_append 576 (scaled (pos (line.multiplier n)) form) (sum_of constraints line n).form
      (below_scaled 576 (pos (line.multiplier n)) form (below_opposite c low (is_negated (line.literal n))))
      (sum_below n (λ j l. h j (omega arith)))

  -- ---- what an accepted line says

  pub record Accepted : Type 0 where
    pub some : 1 ≤ listed_in line
    pub on_constraints : (j : ℕ) → j < listed_in line → is_constraint (atom_of (line.literal j)) ≡ true
    pub zeros : (x : ℕ) → x < 576 → coefficient (sum_of constraints line (listed_in line)).form x ≡ pos 0
    pub negative : (sum_of constraints line (listed_in line)).bound ≤ℤ neg_ℤ (pos 1)

  pub accepted : arithmetic_ok constraints line ≡ true → Accepted
  unfolding arithmetic_ok
  accepted e =
      let n = listed_in line in
      let sum = sum_of constraints line n in
      let on_test : ℕ → Bool = λ j. is_constraint (atom_of (line.literal j)) in
      let zero_test : ℕ → Bool = λ x. same_z (coefficient sum.form x) (pos 0) in
      let outer = both_true (leb 1 n && every on_test n && every zero_test 576) (le_z sum.bound (neg_ℤ (pos 1))) e in
      let middle = both_true (leb 1 n && every on_test n) (every zero_test 576) outer.0 in
      let inner = both_true (leb 1 n) (every on_test n) middle.0 in
      record {
        some = leb-true 1 n inner.0;
        on_constraints = every_all on_test n inner.1;
        zeros = λ x l. same_means (coefficient sum.form x) (pos 0) (every_all zero_test 576 middle.1 x l);
        negative = (le_z_true sum.bound (neg_ℤ (pos 1))).0 outer.1;
      }

  -- the opposites of an accepted line's literals do not all hold, whatever the values
  pub contradiction :
      arithmetic_ok constraints line ≡ true
      → ((j : ℕ) → j < listed_in line → Named (on j) (used_in (on j)))
      → (w : ℕ → ℤ)
      → ((j : ℕ) → j < listed_in line → total (opposite_says constraints (line.literal j)).form w ≤ℤ (opposite_says constraints (line.literal j)).bound)
      → ⊥
  contradiction e named w holds =
      let n = listed_in line in
      let told = accepted e in
      let sum = sum_of constraints line n in
      let none : total sum.form w ≡ pos 0 = vanishes 576 sum.form (sum_below n named) told.zeros w in
      let held : pos 0 ≤ℤ sum.bound = subst (λ (z : ℤ). z ≤ℤ sum.bound) none (sum_holds constraints line w n holds) in
      (≤ℤ-trans (pos 0) sum.bound (neg_ℤ (pos 1)) held told.negative).le
