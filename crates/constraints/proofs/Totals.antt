-- The value of a form: of a sum and of a multiple, and by the coefficients of its variables.
-- Assumes nothing.
use mathlib.Core.Path.{◌≡◌, refl, sym, ◌∙◌, ap}
use mathlib.Core.List.{[], ◌∷◌, ◌++◌}
use mathlib.Core.Bool.{Bool, true, false, cond}
use Prim.Native.Nat.{ℕ, zero, suc, ◌≤◌, ◌<◌}
use native.Mathlib.Nat.{le_refl, not-suc-le-zero}
use native.Mathlib.Omega.{arith}
use borrow.Author.Tests.{eqb-true, eqb-false, ne_eqb}
use lib.Dec.{eqb}
use lib.IntN.{ℤ, pos, ◌+ℤ◌, ◌*ℤ◌}
use Rattle.integers.proofs.Ring.{+ℤ_idl, +ℤ_comm, +ℤ_assoc, *ℤ-assoc, *ℤ-distl, *ℤ-distr, *ℤ-zero, zero-*ℤ}
use Rattle.constraints.specs.Linear.{Form, coefficient, total, scaled}

module _ (w : ℕ → ℤ) where
  pub total_append : (f g : Form) → total (f ++ g) w ≡ total f w +ℤ total g w
  total_append [] g = sym (+ℤ_idl (total g w))
  total_append (m ∷ ms) g =
      rw (total_append ms g) (sym (+ℤ_assoc (m.times *ℤ w m.of) (total ms w) (total g w)))

  pub total_scaled : (z : ℤ) (f : Form) → total (scaled z f) w ≡ z *ℤ total f w
  total_scaled z [] = sym (*ℤ-zero z)
  total_scaled z (m ∷ ms) =
      rw (total_scaled z ms, *ℤ-assoc z m.times (w m.of)) (sym (*ℤ-distl z (m.times *ℤ w m.of) (total ms w)))

-- ---- the coefficient at a variable, of a sum and of a multiple

cond_plus : (t : Bool) (a b c : ℤ) → cond t (a +ℤ (b +ℤ c)) (b +ℤ c) ≡ cond t (a +ℤ b) b +ℤ c
cond_plus true a b c = sym (+ℤ_assoc a b c)
cond_plus false a b c = refl

cond_times : (t : Bool) (z a b : ℤ) → cond t (z *ℤ a +ℤ z *ℤ b) (z *ℤ b) ≡ z *ℤ cond t (a +ℤ b) b
cond_times true z a b = sym (*ℤ-distl z a b)
cond_times false z a b = refl

module _ (x : ℕ) where
  pub coefficient_append : (f g : Form) → coefficient (f ++ g) x ≡ coefficient f x +ℤ coefficient g x
  coefficient_append [] g = sym (+ℤ_idl (coefficient g x))
  coefficient_append (m ∷ ms) g =
      rw (coefficient_append ms g) (cond_plus (eqb m.of x) m.times (coefficient ms x) (coefficient g x))

  pub coefficient_scaled : (z : ℤ) (f : Form) → coefficient (scaled z f) x ≡ z *ℤ coefficient f x
  coefficient_scaled z [] = sym (*ℤ-zero z)
  coefficient_scaled z (m ∷ ms) =
      rw (coefficient_scaled z ms) (cond_times (eqb m.of x) z m.times (coefficient ms x))

-- the coefficients of the variables below n, each times its value
abbrev pub dot : (ℕ → ℤ) → (n : ℕ) → (ℕ → ℤ) → ℤ
dot a zero w = pos 0
dot a (suc n) w = a n *ℤ w n +ℤ dot a n w

-- what is 0 below n is 0 in all
pub dot_zero : (a : ℕ → ℤ) (n : ℕ) (w : ℕ → ℤ) → ((x : ℕ) → x < n → a x ≡ pos 0) → dot a n w ≡ pos 0
dot_zero a zero w h = refl
dot_zero a (suc n) w h = rw (h n (le_refl (suc n)), zero-*ℤ (w n), dot_zero a n w (λ x l. h x (omega arith)))

-- a number added at the variable y
abbrev plus_at : (ℕ → ℤ) → (y : ℕ) → ℤ → ℕ → ℤ
plus_at a y z x = cond (eqb y x) (z +ℤ a x) (a x)

-- at a variable at or above n it changes nothing; below, it adds once
dot_outside : (a : ℕ → ℤ) (y : ℕ) (z : ℤ) (n : ℕ) (w : ℕ → ℤ) → n ≤ y → dot (plus_at a y z) n w ≡ dot a n w
dot_outside a y z zero w l = refl
dot_outside a y z (suc n) w l =
    rw (ne_eqb y n (λ e. omega arith), dot_outside a y z n w (omega arith))

moved : (a b c d : ℤ) → a *ℤ c +ℤ (b *ℤ c +ℤ d) ≡ (a +ℤ b) *ℤ c +ℤ d
moved a b c d = sym (+ℤ_assoc (a *ℤ c) (b *ℤ c) d) ∙ ap (λ (z : ℤ). z +ℤ d) (sym (*ℤ-distr a b c))

swapped : (a b c : ℤ) → a +ℤ (b +ℤ c) ≡ b +ℤ (a +ℤ c)
swapped a b c = sym (+ℤ_assoc a b c) ∙ ap (λ (z : ℤ). z +ℤ c) (+ℤ_comm a b) ∙ +ℤ_assoc b a c

dot_inside : (a : ℕ → ℤ) (y : ℕ) (z : ℤ) (n : ℕ) (w : ℕ → ℤ) → y < n → dot (plus_at a y z) n w ≡ z *ℤ w y +ℤ dot a n w
dot_inside a y z zero w l = absurd (not-suc-le-zero l)
dot_inside a y z (suc n) w l = go (eqb y n) refl (λ k. dot_inside a y z n w k)
  where
    go : (t : Bool) → eqb y n ≡ t → (y < n → dot (plus_at a y z) n w ≡ z *ℤ w y +ℤ dot a n w)
        → cond t (z +ℤ a n) (a n) *ℤ w n +ℤ dot (plus_at a y z) n w ≡ z *ℤ w y +ℤ (a n *ℤ w n +ℤ dot a n w)
    go true e rest =
        let same = eqb-true y n e in
        rw (same, dot_outside a n z n w (le_refl n)) (sym (moved z (a n) (w n) (dot a n w)))
    go false e rest =
        let other = eqb-false y n e in
        rw (rest (omega (arith, other))) (swapped (a n *ℤ w n) (z *ℤ w y) (dot a n w))

-- a form of variables below n
abbrev pub Below : ℕ → Form → Type 0
Below n [] = Unit {0}
Below n (m ∷ ms) = (m.of < n) × Below n ms

pub below_append : (n : ℕ) (f g : Form) → Below n f → Below n g → Below n (f ++ g)
below_append n [] g b d = d
below_append n (m ∷ ms) g b d = (b.0, below_append n ms g b.1 d)

pub below_scaled : (n : ℕ) (z : ℤ) (f : Form) → Below n f → Below n (scaled z f)
below_scaled n z [] b = b
below_scaled n z (m ∷ ms) b = (b.0, below_scaled n z ms b.1)

pub total_dot : (n : ℕ) (w : ℕ → ℤ) (f : Form) → Below n f → total f w ≡ dot (coefficient f) n w
total_dot n w [] b = sym (dot_zero (λ x. pos 0) n w (λ x l. refl))
total_dot n w (m ∷ ms) b =
    rw (total_dot n w ms b.1) (sym (dot_inside (coefficient ms) m.of m.times n w b.0))

-- a form all of whose coefficients are 0 is 0 at every value
pub vanishes : (n : ℕ) (f : Form) → Below n f → ((x : ℕ) → x < n → coefficient f x ≡ pos 0) → (w : ℕ → ℤ) → total f w ≡ pos 0
vanishes n f b h w = total_dot n w f b ∙ dot_zero (coefficient f) n w h
