-- Numbers that 64 signed bits hold already: as checked results, and constants of 32 bits.
-- Assumes nothing.
use mathlib.Core.Path.{◌≡◌, sym, ◌∙◌, ap}
use lib.IntN.{ℤ}
use mir.Syntax.{w32, w64}
use mir.Val.{SFits}
use mir.Facts.{to_z-of_z, sfits_widen}
use Rattle.integers.specs.Range.{checked_of}
use Rattle.integers.proofs.Reading.{rd}
use Rattle.integers.proofs.Within.{within}
use Rattle.std.specs.Prelude.{Some}

pub whole_is : (z : ℤ) → SFits w64 z → Some (rd w64 z) ≡ checked_of z
whole_is z f = ap Some (to_z-of_z f) ∙ sym (within z f)

pub widened : (z : ℤ) → SFits w32 z → rd w64 (rd w32 z) ≡ z
widened z f = ap (rd w64) (to_z-of_z f) ∙ to_z-of_z {w = w64} (sfits_widen {w = w32} {w' = w64} tt f)
