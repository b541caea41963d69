-- The factor that is read off is right where any is: the test of a multiple is "some whole number of at least 1".
-- Assumes nothing.
use mathlib.Core.Path.{◌≡◌, sym, ◌∙◌, ap}
use mathlib.Core.Logic.{◌⊎◌, inl, inr, ◌↔◌}
use mathlib.Core.Bool.{true}
use Prim.Native.Nat.{ℕ, zero, suc, ◌≤◌}
use native.Mathlib.Nat.{not-suc-le-zero}
use native.Mathlib.Omega.{arith}
use borrow.Author.Tests.{lt-leb}
use lib.IntN.{ℤ, pos, negsuc, neg_ℤ, nat_abs, ◌*ℤ◌}
use Rattle.integers.proofs.Abs.{abs-*ℤ}
use Rattle.integers.proofs.Ring.{*ℤ-zero}
use Rattle.constraints.specs.Linear.{Bounded, coefficient}
use Rattle.constraints.proofs.Totals.{coefficient_scaled}
use Rattle.rules.specs.declared.pattern.Linear.{Linear}
use Rattle.rules.specs.Clauses.{bounded_of}
use Rattle.rules.specs.Factors.{factor_from, read_off, factor_read, is_multiple}
use Rattle.rules.specs.Matching.{multiplied, MultipleOf}
use Rattle.rules.proofs.Contents.{same_content_means, same_content_test}
use Rattle.rules.proofs.Leading.{lead, Leading, plus, minus, none}

-- a number of the factor's size is read as the factor
from_size : (f : ℕ) → 1 ≤ f → (z : ℤ) → nat_abs z ≡ f → factor_from z ≡ f
from_size f l z e = omega arith

from_first : (f : ℕ) → 1 ≤ f → (z bound : ℤ) → nat_abs z ≡ f → factor_from (read_off z bound) ≡ f
from_first f l (pos zero) bound e = absurd (not-suc-le-zero (rw (sym e) at l))
from_first f l (pos (suc n)) bound e = rw (lt-leb (suc n) 0 (omega arith)) (from_size f l (pos (suc n)) e)
from_first f l (negsuc n) bound e = from_size f l (negsuc n) e

times_zero : (f : ℕ) (z : ℤ) → z ≡ pos 0 → pos f *ℤ z ≡ pos 0
times_zero f z e = rw e (*ℤ-zero (pos f))

module _ (d : Linear) (c : Bounded) where
  -- what a factor says of each coefficient
  module _ (of : MultipleOf (bounded_of d) c) where
    abbrev f : ℕ
    f = of.factor

    coefficients : (x : ℕ) → coefficient c.form x ≡ pos f *ℤ coefficient (bounded_of d).form x
    coefficients x = (same_content_means c (multiplied f (bounded_of d)) of.same).1 x ∙ coefficient_scaled x (pos f) (bounded_of d).form

    bounds : c.bound ≡ pos f *ℤ d.bound
    bounds = (same_content_means c (multiplied f (bounded_of d)) of.same).0

    -- a size of 1 times f
    size : (z w : ℤ) → nat_abs w ≡ 1 → z ≡ pos f *ℤ w → nat_abs z ≡ f
    size z w one e = ap nat_abs e ∙ abs-*ℤ (pos f) w ∙ rw one (omega arith)

    passes : factor_read d c ≡ f → is_multiple d c ≡ true
    unfolding is_multiple
    passes e = rw e of.same

    -- read at the first variable
    by_lead : nat_abs (lead d) ≡ 1 → is_multiple d c ≡ true
    by_lead one =
        let first = coefficient c.form d.x in
        passes (from_first f of.least first c.bound (size first (lead d) one (coefficients d.x)))

    -- a defined constraint without terms: "0 ≤ −1" is read in the bound, "0 ≤ 0" is itself times any number
    by_bound : ((x : ℕ) → coefficient (bounded_of d).form x ≡ pos 0) → (d.bound ≡ pos 0) ⊎ (d.bound ≡ neg_ℤ (pos 1)) → is_multiple d c ≡ true
    unfolding is_multiple
    by_bound zeros (inl e) =
        same_content_test c (multiplied (factor_read d c) (bounded_of d))
        (bounds ∙ times_zero f d.bound e ∙ sym (times_zero _ d.bound e))
        (λ x.
        coefficients x
        ∙ times_zero f (coefficient (bounded_of d).form x) (zeros x)
        ∙ sym (coefficient_scaled x (pos (factor_read d c)) (bounded_of d).form ∙ times_zero _ _ (zeros x)))
    by_bound zeros (inr e) =
        let lacks : coefficient c.form d.x ≡ pos 0 = coefficients d.x ∙ times_zero f (lead d) (zeros d.x) in
        passes (rw lacks (from_size f of.least c.bound (size c.bound d.bound (ap nat_abs e) bounds)))

  multiple_test : Leading d → MultipleOf (bounded_of d) c → is_multiple d c ≡ true
  multiple_test (plus e) of = by_lead of (ap nat_abs e)
  multiple_test (minus e) of = by_lead of (ap nat_abs e)
  multiple_test (none zeros bound) of = by_bound of zeros bound

  pub multiple_means : is_multiple d c ≡ true → MultipleOf (bounded_of d) c
  unfolding is_multiple
  multiple_means e = record { factor = factor_read d c; least = omega arith; same = e }

  -- the test, and the sentence
  pub multiple_exactly : Leading d → (is_multiple d c ≡ true) ↔ MultipleOf (bounded_of d) c
  multiple_exactly leads = (multiple_means, multiple_test leads)
