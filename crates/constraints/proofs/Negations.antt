-- "The negation of "sum at most B" is "minus sum at most −B − 1"": it says exactly the opposite, whatever the values.
-- Assumes nothing.
use mathlib.Core.Path.{◌≡◌, refl, ◌∙◌, ap}
use mathlib.Core.Bool.{Bool, true, false, not}
use Prim.Native.Nat.{ℕ}
use lib.IntN.{ℤ, pos, neg_ℤ, ◌-ℤ◌}
use lib.Signed.{le_z}
use Rattle.integers.proofs.Order.{le_z_true, le_z_false, ≰-<ℤ, ≰-negℤ}
use Rattle.integers.proofs.Ring.{*ℤ-idl, negℤ-*ℤ}
use Rattle.constraints.specs.Linear.{Form, Bounded, total, scaled, negated}
use Rattle.constraints.proofs.Totals.{total_scaled}

-- of whole numbers
minus_test : (v b : ℤ) → le_z (neg_ℤ v) (neg_ℤ b -ℤ pos 1) ≡ not (le_z v b)
minus_test v b = go (le_z v b) refl
  where
    go : (t : Bool) → le_z v b ≡ t → le_z (neg_ℤ v) (neg_ℤ b -ℤ pos 1) ≡ not t
    go true e =
        (le_z_false (neg_ℤ v) (neg_ℤ b -ℤ pos 1)).1
        ((≰-<ℤ (neg_ℤ v) (neg_ℤ b -ℤ pos 1)).0 (λ h. (≰-negℤ v b).1 h ((le_z_true v b).0 e)))
    go false e = (le_z_true (neg_ℤ v) (neg_ℤ b -ℤ pos 1)).1 ((≰-negℤ v b).0 ((≰-<ℤ v b).1 ((le_z_false v b).0 e)))

module _ (w : ℕ → ℤ) where
  minus_total : (f : Form) → total (scaled (neg_ℤ (pos 1)) f) w ≡ neg_ℤ (total f w)
  minus_total f = total_scaled w (neg_ℤ (pos 1)) f ∙ negℤ-*ℤ (pos 1) (total f w) ∙ ap neg_ℤ (*ℤ-idl (total f w))

  pub negation_opposite : (c : Bounded) → le_z (total (negated c).form w) (negated c).bound ≡ not (le_z (total c.form w) c.bound)
  negation_opposite c =
      ap (λ (z : ℤ). le_z z (negated c).bound) (minus_total c.form) ∙ minus_test (total c.form w) c.bound
