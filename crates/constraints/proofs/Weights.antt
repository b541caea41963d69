-- How large a form's coefficients are: it weighs what its monomials do.
-- Assumes nothing.
use mathlib.Core.Path.{◌≡◌}
use mathlib.Core.List.{[], ◌∷◌, ◌++◌}
use mathlib.Core.Bool.{Bool, true, false, cond}
use Prim.Native.Nat.{ℕ, zero, suc, ◌+◌, ◌*◌, ◌≤◌, ◌<◌}
use native.Mathlib.Nat.{le_refl}
use native.Mathlib.Omega.{arith}
use lib.Dec.{eqb}
use lib.IntN.{ℤ, nat_abs, ◌+ℤ◌}
use Rattle.integers.proofs.Abs.{abs-*ℤ, bound_add}
use Rattle.constraints.specs.Layout.{Constraint}
use Rattle.constraints.specs.Linear.{Form, coefficient, scaled, written}

abbrev pub weight : Form → ℕ
weight [] = 0
weight (m ∷ ms) = nat_abs m.times + weight ms

chosen_within : (a b : ℤ) (n : ℕ) → nat_abs b ≤ n → (t : Bool) → nat_abs (cond t (a +ℤ b) b) ≤ nat_abs a + n
chosen_within a b n h true = bound_add (nat_abs a) n a b (le_refl (nat_abs a)) h
chosen_within a b n h false = omega arith

pub coefficient_within : (f : Form) (x : ℕ) → nat_abs (coefficient f x) ≤ weight f
coefficient_within [] x = le_refl 0
coefficient_within (m ∷ ms) x =
    chosen_within m.times (coefficient ms x) (weight ms) (coefficient_within ms x) (eqb m.of x)

pub weight_append : (f g : Form) → weight (f ++ g) ≡ weight f + weight g
weight_append [] g = omega arith
weight_append (m ∷ ms) g = omega (arith, weight_append ms g)

pub weight_scaled : (z : ℤ) (f : Form) → weight (scaled z f) ≡ nat_abs z * weight f
weight_scaled z [] = omega arith
weight_scaled z (m ∷ ms) = omega (arith, abs-*ℤ z m.times, weight_scaled z ms)

pub weight_written : (c : Constraint) (n : ℕ) → ((j : ℕ) → j < n → nat_abs (c.term j).coefficient ≤ 1000000000)
    → weight (written c n) ≤ n * 1000000000
unfolding written
weight_written c zero h = le_refl 0
weight_written c (suc n) h = omega (arith, h n (le_refl (suc n)), weight_written c n (λ j l. h j (omega arith)))
