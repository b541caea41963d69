-- The factor that is read off: its sign's cases, that its products fit, and where none is right.
-- Assumes nothing.
use mathlib.Core.Path.{◌≡◌, refl, sym, ◌∙◌, ap}
use mathlib.Core.Bool.{Bool, true, false, cond, not, ◌&&◌, false≢true}
use Prim.Native.Nat.{ℕ, zero, suc, ◌*◌, ◌≤◌}
use native.Mathlib.Nat.{le_refl, mul-le-mul, not-suc-le-zero}
use native.Mathlib.Omega.{arith}
use borrow.Author.Tests.{lt-ltb, le-ltb, not-true}
use lib.IntN.{ℤ, pos, negsuc, nat_abs, ◌-ℤ◌, ◌*ℤ◌}
use lib.Signed.{lt_z}
use Rattle.integers.proofs.Abs.{abs-*ℤ, bound_mul}
use Rattle.integers.proofs.Ring.{+ℤ_idl}
use Rattle.answers.proofs.Tests.{both_true}
use Rattle.constraints.specs.Layout.{Constraint, used_in}
use Rattle.constraints.specs.Linear.{Bounded, coefficient, written, same_z, bounded_of as of_constraint}
use Rattle.constraints.proofs.Blocks.{used_few}
use Rattle.constraints.proofs.Totals.{coefficient_scaled}
use Rattle.constraints.proofs.Weights.{coefficient_within, weight_written}
use Rattle.rules.specs.declared.pattern.Linear.{Linear}
use Rattle.rules.specs.Clauses.{bounded_of}
use Rattle.rules.specs.Factors.{factor_from, read_off, is_multiple}
use Rattle.rules.specs.Limited.{Limited}
use Rattle.rules.specs.Matching.{multiplied, MultipleOf}
use Rattle.rules.proofs.Contents.{same_means, same_test, same_content_means}
use Rattle.rules.proofs.Factors.{multiple_means}
use Rattle.rules.proofs.Leading.{lead}
use Rattle.clauses.specs.Limits.{Small}
use Rattle.matching.specs.Content.{Summable}
use Rattle.matching.specs.Factors.{Fitting}

-- ---- by its sign

pub above : (z : ℤ) → lt_z (pos 0) z ≡ true → z ≡ pos (factor_from z)
above (pos zero) e = absurd (false≢true e)
above (pos (suc n)) e = ap pos (omega arith)
above (negsuc n) e = absurd (false≢true e)

pub below : (z : ℤ) → lt_z z (pos 0) ≡ true → pos 0 -ℤ z ≡ pos (factor_from z)
below (pos n) e = absurd (false≢true (sym (le-ltb n 0 (omega arith)) ∙ e))
below (negsuc n) e = +ℤ_idl (pos (suc n)) ∙ ap pos (omega arith)

pub neither : (z : ℤ) → lt_z (pos 0) z ≡ false → lt_z z (pos 0) ≡ false → pos 1 ≡ pos (factor_from z)
neither (pos zero) e f = refl
neither (pos (suc n)) e f = absurd (false≢true (sym e ∙ lt-ltb 0 (suc n) (omega arith)))
neither (negsuc n) e f = absurd (false≢true (sym f))

-- ---- its products

factor_within : (z : ℤ) (n : ℕ) → 1 ≤ n → nat_abs z ≤ n → factor_from z ≤ n
factor_within z n l h = omega arith

pub small_sums : (d : Linear) → Small d → Summable d
small_sums d small = record { a = omega (arith, small.a); b = omega (arith, small.b); c = omega (arith, small.c) }

module _ (d : Linear) (small : Small d) (f : ℕ) where
  by_first : f ≤ 8000000000 → Fitting (pos f) d
  by_first l =
      record {
        sums =
            record {
              a = omega (arith, bound_mul 8000000000 1 (pos f) d.a l small.a);
              b = bound_mul 8000000000 1000000000 (pos f) d.b l small.b;
              c = omega (arith, bound_mul 8000000000 1 (pos f) d.c l small.c);
            };
        bound = bound_mul 8000000000 1000000000 (pos f) d.bound l small.bound;
      }

  by_bound : f ≤ 100000000000 → lead d ≡ pos 0 → Fitting (pos f) d
  by_bound l e =
      let ones = small.dropped e in
      record {
        sums =
            record {
              a = bound_mul 100000000000 1 (pos f) d.a l small.a;
              b = omega (arith, bound_mul 100000000000 1 (pos f) d.b l ones.0);
              c = bound_mul 100000000000 1 (pos f) d.c l small.c;
            };
        bound = omega (arith, bound_mul 100000000000 1 (pos f) d.bound l ones.1);
      }

-- the coefficient at any variable of a constraint within its limits
coefficient_limit_is : (c : Constraint) → Limited c → (x : ℕ) → nat_abs (coefficient (written c (used_in c)) x) ≤ 8000000000
coefficient_limit_is c limits x =
    let few = used_few c in
    omega (arith, coefficient_within (written c (used_in c)) x, weight_written c (used_in c) limits.coefficients)

module _ (c : Constraint) (limits : Limited c) (d : Linear) where
  abbrev first : ℤ
  first = coefficient (of_constraint c).form d.x

  pub read_limit : nat_abs (read_off first c.head.bound) ≤ 100000000000
  read_limit = go (same_z first (pos 0))
    where
      go : (t : Bool) → nat_abs (cond t c.head.bound first) ≤ 100000000000
      go true = limits.bound
      go false = omega (arith, coefficient_limit_is c limits d.x)

  -- where not the written constraint alone lacks d's first variable
  pub fitting : Small d → (same_z first (pos 0) && not (same_z (lead d) (pos 0))) ≡ false → Fitting (pos (factor_from (read_off first c.head.bound))) d
  fitting small e = go (same_z first (pos 0)) refl e
    where
      lacks : (t : Bool) → same_z (lead d) (pos 0) ≡ t → not t ≡ false → lead d ≡ pos 0
      lacks true f n = same_means (lead d) (pos 0) f
      lacks false f n = absurd (false≢true (sym n))

      go : (t : Bool) → same_z first (pos 0) ≡ t → (t && not (same_z (lead d) (pos 0))) ≡ false → Fitting (pos (factor_from (cond t c.head.bound first))) d
      go true f n = by_bound d small _ (factor_within c.head.bound 100000000000 (omega arith) limits.bound) (lacks (same_z (lead d) (pos 0)) refl n)
      go false f n = by_first d small _ (factor_within first 8000000000 (omega arith) (coefficient_limit_is c limits d.x))

-- ---- no factor

no_size : (z : ℤ) → nat_abs z ≤ 0 → z ≡ pos 0
no_size (pos zero) l = refl
no_size (pos (suc n)) l = absurd (not-suc-le-zero l)
no_size (negsuc n) l = absurd (not-suc-le-zero l)

-- a product is 0 by its second factor
second_zero : (f : ℕ) (z : ℤ) → 1 ≤ f → pos f *ℤ z ≡ pos 0 → z ≡ pos 0
second_zero f z l e =
    let product : f * nat_abs z ≡ 0 = sym (abs-*ℤ (pos f) z) ∙ ap nat_abs e in
    let least : 1 * nat_abs z ≤ f * nat_abs z = mul-le-mul l (le_refl (nat_abs z)) in
    no_size z (omega arith)

-- where the written constraint lacks d's first variable and d does not
pub none_right : (d : Linear) (c : Bounded) → (same_z (coefficient c.form d.x) (pos 0) && not (same_z (lead d) (pos 0))) ≡ true → is_multiple d c ≡ false
none_right d c e = go (is_multiple d c) refl
  where
    tests : (same_z (coefficient c.form d.x) (pos 0) ≡ true) × (not (same_z (lead d) (pos 0)) ≡ true)
    tests = both_true _ (not (same_z (lead d) (pos 0))) e

    has : MultipleOf (bounded_of d) c → ⊥
    has of =
        let scales = (same_content_means c (multiplied of.factor (bounded_of d)) of.same).1 d.x ∙ coefficient_scaled d.x (pos of.factor) (bounded_of d).form in
        let zero_first = same_means (coefficient c.form d.x) (pos 0) tests.0 in
        let zero_lead = second_zero of.factor (lead d) of.least (sym scales ∙ zero_first) in
        false≢true (sym (not-true _ tests.1) ∙ same_test (lead d) (pos 0) zero_lead)

    go : (t : Bool) → is_multiple d c ≡ t → is_multiple d c ≡ false
    go true f = absurd (has (multiple_means d c f))
    go false f = f
