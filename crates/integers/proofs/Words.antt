-- Signed machine words, at every width: which integers a word holds. The kit's laws of reading and writing a word are passed on.
use mathlib.Core.Logic.{◌↔◌}
use Prim.Native.Nat.{ℕ, ◌^◌, ◌≤◌, ◌<◌}
use native.Mathlib.Omega.{arith}
use lib.IntN.{pos, neg_ℤ}
use lib.Pow.{pow_pos}
use mir.Syntax.{Width}
use mir.Val.{SFits, hbits}
pub use mir.Facts.{to_z-of_z, of_z-to_z, to_z_pos, to_z-neg, sfits_to_z, sfits_widen}
use Rattle.std.proofs.lemmas.Int.{ints}

pub sfits_pos : (w : Width) (n : ℕ) → SFits w (pos n) ↔ (n < 2 ^ hbits w)
sfits_pos w n = omega arith

pub sfits_negℤ : (w : Width) (n : ℕ) → SFits w (neg_ℤ (pos n)) ↔ (n ≤ 2 ^ hbits w)
sfits_negℤ w n = omega (arith, ints, pow_pos (hbits w))
