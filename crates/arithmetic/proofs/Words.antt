-- Words of a line's numbers: a multiplier, its negation, a constraint's bound, and that of its negation.
-- Assumes nothing.
use mathlib.Core.Path.{◌≡◌, ◌∙◌, ap}
use mathlib.Core.List.{List}
use Prim.Native.Nat.{ℕ, ◌≤◌}
use native.Mathlib.Nat.{lt_of_le_of_lt}
use native.Mathlib.Omega.{arith}
use lib.IntN.{ℤ, pos, neg_ℤ, nat_abs, ◌-ℤ◌}
use mir.Syntax.{w64}
use mir.Val.{SFits, to_z}
use mir.ValLaws.{to_z_pos}
use Rattle.integers.proofs.Ring.{+ℤ_idl}
use Rattle.integers.proofs.Abs.{abs_fits, abs_negℤ, bound_sub}
use Rattle.integers.proofs.Reading.{rd}
use Rattle.integers.proofs.Words.{to_z-of_z, sfits_negℤ}
use Rattle.integers.proofs.Small.{small_difference_fits, small_difference}
use Rattle.constraints.specs.declared.layout.ConstraintHead.{ConstraintHead}
use Rattle.constraints.specs.Layout.{head_at}

zero_sub : (z : ℤ) → pos 0 -ℤ z ≡ neg_ℤ z
zero_sub z = +ℤ_idl (neg_ℤ z)

module _ (n : ℕ) (l : n ≤ 1000000) where
  pub multiplier_word : to_z w64 n ≡ pos n
  multiplier_word = to_z_pos w64 n (omega arith)

  pub negated_fits : SFits w64 (pos 0 -ℤ to_z w64 n)
  negated_fits = rw (multiplier_word, zero_sub (pos n)) ((sfits_negℤ w64 n).1 (omega arith))

  pub negated_word : rd w64 (pos 0 -ℤ to_z w64 n) ≡ neg_ℤ (pos n)
  negated_word = to_z-of_z negated_fits ∙ rw multiplier_word (zero_sub (pos n))

-- a constraint's bound as it was read
pub bound_read : (s : List ℕ) (head : ConstraintHead) (p place : ℕ) → SFits w64 head.bound → head ≡ head_at s p → p ≡ place
    → rd w64 head.bound ≡ (head_at s place).bound
bound_read s head p place f e g = to_z-of_z f ∙ ap (λ (h : ConstraintHead). h.bound) e ∙ ap (λ (p : ℕ). (head_at s p).bound) g

module _ (b : ℤ) (h : nat_abs b ≤ 100000000000) where
  pub minus_fits : SFits w64 (pos 0 -ℤ rd w64 b)
  minus_fits = small_difference_fits w64 (pos 0) b {m = 0} (omega arith) h (omega arith)

  minus : rd w64 (pos 0 -ℤ rd w64 b) ≡ neg_ℤ b
  minus = small_difference w64 (pos 0) b {m = 0} (omega arith) h (omega arith) ∙ zero_sub b

  pub opposite_fits : SFits w64 (rd w64 (pos 0 -ℤ rd w64 b) -ℤ pos 1)
  opposite_fits =
      let low : nat_abs (neg_ℤ b) ≤ 100000000000 = rw (abs_negℤ b) h in
      rw minus (abs_fits w64 _ (lt_of_le_of_lt (bound_sub 100000000000 1 (neg_ℤ b) (pos 1) low (omega arith)) (omega arith)))

  pub opposite_word : rd w64 (rd w64 (pos 0 -ℤ rd w64 b) -ℤ pos 1) ≡ neg_ℤ b -ℤ pos 1
  opposite_word = to_z-of_z opposite_fits ∙ rw minus
