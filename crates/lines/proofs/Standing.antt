-- The search for a literal from the front, as `any` over the numbers from j on says it: nothing is left, or the next one and the rest.
-- Assumes nothing.
use mathlib.Core.Path.{◌≡◌, refl, ap}
use mathlib.Core.Bool.{false, ◌||◌}
use Prim.Native.Nat.{ℕ, zero, suc, ◌+◌, ◌-◌, ◌<◌, ◌≤◌}
use native.Mathlib.Numerals.{add-one}
use native.Mathlib.Omega.{arith}
use lib.Dec.{eqb}
use Rattle.std.specs.List.{list_any, range_with_len}
use Rattle.rules.specs.Joins.{stands_from}

pub stands_any : (literal : ℕ → ℕ) (l j left : ℕ) → list_any (λ i. eqb (literal i) l) (range_with_len j left) ≡ stands_from literal l j left
unfolding stands_from
stands_any literal l j zero = refl
stands_any literal l j (suc left) = rw add-one (ap (λ b. eqb (literal j) l || b) (stands_any literal l (suc j) left))

module _ (literal : ℕ → ℕ) (l j count : ℕ) where
  pub stands_past : count ≤ j → stands_from literal l j (count - j) ≡ false
  unfolding stands_from
  stands_past h = let e : count - j ≡ 0 = omega arith in rw e

  pub stands_step : j < count → stands_from literal l j (count - j) ≡ (eqb (literal j) l || stands_from literal l (j + 1) (count - (j + 1)))
  unfolding stands_from
  stands_step h =
      let e : count - j ≡ suc (count - (j + 1)) = omega arith in
      rw e (ap (λ (k : ℕ). eqb (literal j) l || stands_from literal l k (count - (j + 1))) (omega arith))
