-- Signed words for `omega`: what the machine reads back of a number that its width holds, and what is needed where a word
-- is added to, or taken from, a limit or another word.
use mathlib.Core.Path.{◌≡◌, sym, ap, ap₂, subst}
use Prim.Native.Nat.{◌+◌, ◌^◌, ◌≤◌, ◌<◌}
use native.Mathlib.Omega.{arith}
use lib.IntN.{ℤ, pos, negsuc, ◌+ℤ◌, ◌-ℤ◌}
use mir.Syntax.{Width}
use mir.Val.{SFits, hbits, to_z, of_z}
use mir.Facts.{to_z-of_z}
use Rattle.integers.proofs.Diff.{diff_sfits}
use Rattle.integers.proofs.Rules.{up, down, halves, Is, +ℤ-halves, -ℤ-halves}

-- what the machine reads back of z
abbrev pub rd : Width → ℤ → ℤ
rd w z = to_z w (of_z w z)

-- an operation or a test on two words, on what the machine reads of them
pub rd_op : {A : Type 0} (w : Width) (op : ℤ → ℤ → A) {a b : ℤ} → SFits w a → SFits w b → op (rd w a) (rd w b) ≡ op a b
rd_op w op f g = ap₂ op (to_z-of_z f) (to_z-of_z g)

-- what `omega` needs of a number that its width holds
pub record Known (w : Width) (z : ℤ) : Type 0 where
  pub below : up z < 2 ^ hbits w
  pub above : down z ≤ 2 ^ hbits w
  pub up_read : up (rd w z) ≡ up z
  pub dn_read : down (rd w z) ≡ down z

pub known : {w : Width} {z : ℤ} → SFits w z → Known w z
known {w} {z} f = record { below = low z f; above = high z f; up_read = ap up (to_z-of_z f); dn_read = ap down (to_z-of_z f) }
  where
    low : (z : ℤ) → SFits w z → up z < 2 ^ hbits w
    low (pos n) f = f.sfits
    low (negsuc n) f = omega (arith, f.sfits)

    high : (z : ℤ) → SFits w z → down z ≤ 2 ^ hbits w
    high (pos n) f = omega arith
    high (negsuc n) f = f.sfits

pub show_fits : (w : Width) (z : ℤ) → (up z < 2 ^ hbits w + down z) × (down z ≤ 2 ^ hbits w + up z) → SFits w z
show_fits w z h = subst (SFits w) (sym (halves z)) ((diff_sfits w (up z) (down z)).1 h)

-- what `omega` needs where a limit l is moved by a word b, and a word a too
pub record Moved (w : Width) (l a b : ℤ) : Type 0 where
  pub a_known : Known w a
  pub b_known : Known w b
  pub limit_up : Is (l +ℤ rd w b) (up l + up (rd w b)) (down l + down (rd w b))
  pub limit_down : Is (l -ℤ rd w b) (up l + down (rd w b)) (down l + up (rd w b))
  pub sum : Is (rd w a +ℤ rd w b) (up (rd w a) + up (rd w b)) (down (rd w a) + down (rd w b))
  pub difference : Is (rd w a -ℤ rd w b) (up (rd w a) + down (rd w b)) (down (rd w a) + up (rd w b))

pub moved : {w : Width} (l : ℤ) {a b : ℤ} → SFits w a → SFits w b → Moved w l a b
moved {w} l {a} {b} f g =
    record {
      a_known = known f;
      b_known = known g;
      limit_up = +ℤ-halves l (rd w b);
      limit_down = -ℤ-halves l (rd w b);
      sum = +ℤ-halves (rd w a) (rd w b);
      difference = -ℤ-halves (rd w a) (rd w b);
    }
