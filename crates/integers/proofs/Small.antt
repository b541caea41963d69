-- Words of bounded magnitude: where the bounds of two words add or multiply to less than half the power of the width, the
-- machine's sum, difference or product fits, and is that of the whole numbers.
use mathlib.Core.Path.{◌≡◌, sym, ◌∙◌, subst}
use Prim.Native.Nat.{ℕ, ◌+◌, ◌*◌, ◌^◌, ◌≤◌, ◌<◌}
use native.Mathlib.Nat.{lt_of_le_of_lt}
use native.Mathlib.Omega.{arith}
use lib.IntN.{ℤ, nat_abs, ◌+ℤ◌, ◌-ℤ◌, ◌*ℤ◌}
use mir.Syntax.{Width}
use mir.Val.{SFits, hbits}
use mir.Facts.{to_z-of_z}
use Rattle.integers.proofs.Abs.{abs_fits, bound_add, bound_sub, bound_mul}
use Rattle.integers.proofs.Reading.{rd, rd_op}

-- any operation on two words, whose result fits: on what the machine reads, it fits too, and gives the same
module _ (w : Width) (op : ℤ → ℤ → ℤ) {a b : ℤ} (f : SFits w a) (g : SFits w b) (h : SFits w (op a b)) where
  pub read_fits : SFits w (op (rd w a) (rd w b))
  read_fits = subst (SFits w) (sym (rd_op w op f g)) h

  pub read_result : rd w (op (rd w a) (rd w b)) ≡ op a b
  read_result = to_z-of_z read_fits ∙ rd_op w op f g

-- a sum and a difference: the words fit since their bounds' sum does
module _ (w : Width) (a b : ℤ) {m n : ℕ} (h : nat_abs a ≤ m) (k : nat_abs b ≤ n) (l : m + n < 2 ^ hbits w) where
  fits_l : SFits w a
  fits_l = abs_fits w a (omega arith)

  fits_r : SFits w b
  fits_r = abs_fits w b (omega arith)

  sum_fits : SFits w (a +ℤ b)
  sum_fits = abs_fits w (a +ℤ b) (lt_of_le_of_lt (bound_add m n a b h k) l)

  difference_fits : SFits w (a -ℤ b)
  difference_fits = abs_fits w (a -ℤ b) (lt_of_le_of_lt (bound_sub m n a b h k) l)

  pub small_sum_fits : SFits w (rd w a +ℤ rd w b)
  small_sum_fits = read_fits w ◌+ℤ◌ fits_l fits_r sum_fits

  pub small_sum : rd w (rd w a +ℤ rd w b) ≡ a +ℤ b
  small_sum = read_result w ◌+ℤ◌ fits_l fits_r sum_fits

  pub small_difference_fits : SFits w (rd w a -ℤ rd w b)
  small_difference_fits = read_fits w ◌-ℤ◌ fits_l fits_r difference_fits

  pub small_difference : rd w (rd w a -ℤ rd w b) ≡ a -ℤ b
  small_difference = read_result w ◌-ℤ◌ fits_l fits_r difference_fits

-- a product: that the words fit is asked, since one bound may be 0 and the other anything
module _ {w : Width} {a b : ℤ} (f : SFits w a) (g : SFits w b) {m n : ℕ} (h : nat_abs a ≤ m) (k : nat_abs b ≤ n) (l : m * n < 2 ^ hbits w) where
  product_fits : SFits w (a *ℤ b)
  product_fits = abs_fits w (a *ℤ b) (lt_of_le_of_lt (bound_mul m n a b h k) l)

  pub small_product_fits : SFits w (rd w a *ℤ rd w b)
  small_product_fits = read_fits w ◌*ℤ◌ f g product_fits

  pub small_product : rd w (rd w a *ℤ rd w b) ≡ a *ℤ b
  small_product = read_result w ◌*ℤ◌ f g product_fits
