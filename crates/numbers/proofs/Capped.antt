-- The lesser of a number and the most that is taken, as the programs' specs/ say it.
-- Assumes nothing.
use mathlib.Core.Path.{◌≡◌, refl}
use mathlib.Core.Bool.{Bool, true, false, cond}
use Prim.Native.Nat.{ℕ, min}
use native.Mathlib.Omega.{arith}
use borrow.Author.Tests.{ltb-true, ltb-false}
use lib.Dec.{ltb}

pub capped : (n most : ℕ) → min n most ≡ cond (ltb n most) n most
capped n most = go (ltb n most) refl
  where
    go : (b : Bool) → ltb n most ≡ b → min n most ≡ cond b n most
    go true e = omega (arith, ltb-true n most e)
    go false e = omega (arith, ltb-false n most e)
