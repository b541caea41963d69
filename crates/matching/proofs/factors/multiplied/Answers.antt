-- `matching::multiplied` meets its contract: each product fits.
use mathlib.Core.Path.{◌≡◌, ◌∙◌, ap₂}
use Prim.Native.Nat.{◌≤◌}
use native.Mathlib.Omega.{arith}
use lib.IntN.{ℤ, nat_abs, ◌*ℤ◌}
use mir.Syntax.{w64}
use mir.Val.{SFits}
use mir.Facts.{to_z-of_z}
use Rattle.integers.proofs.Abs.{abs_fits}
use Rattle.integers.proofs.Reading.{rd}
use Rattle.matching.proofs.factors.multiplied.Goals as goal

-- a product of two words
module _ (a b : ℤ) (l : SFits w64 a) (m : SFits w64 b) (h : nat_abs (a *ℤ b) ≤ 8000000000000000000) where
  product_is : rd w64 a *ℤ rd w64 b ≡ a *ℤ b
  product_is = ap₂ ◌*ℤ◌ (to_z-of_z l) (to_z-of_z m)

  fits : SFits w64 (rd w64 a *ℤ rd w64 b)
  fits = rw product_is (abs_fits w64 (a *ℤ b) (omega arith))

  exact : rd w64 (rd w64 a *ℤ rd w64 b) ≡ a *ℤ b
  exact = to_z-of_z fits ∙ product_is

pub returns : goal.returns
returns c =
    let f = c.args.factor in
    let d = c.args.d in
    rw (
      exact f d.a c.ranges.factor (record { sfits = c.struct_told-4-1.given.1.0.1 }) (omega (arith, c.requires.sums.a)),
      exact f d.b c.ranges.factor (record { sfits = c.struct_told-4-1.given.1.1.1.0.1 }) c.requires.sums.b,
      exact f d.c c.ranges.factor (record { sfits = c.struct_told-4-1.given.1.1.1.1.1.0.1 }) (omega (arith, c.requires.sums.c)),
      exact f d.bound c.ranges.factor (record { sfits = c.struct_told-4-1.given.1.1.1.1.1.1.0.1 }) c.requires.bound,
    )
