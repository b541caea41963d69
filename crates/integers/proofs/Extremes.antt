-- The lesser and the greater of two numbers rise with both.
-- Assumes nothing.
use mathlib.Core.Path.{◌≡◌, refl}
use mathlib.Core.Bool.{Bool, true, false, cond}
use lib.IntN.{ℤ}
use lib.Signed.{le_z, ◌≤ℤ◌}
use Rattle.integers.specs.Range.{lesser, greater}
use Rattle.integers.proofs.Order.{≤ℤ-trans, le_z_true, le_z_total}

module _ (a b c d : ℤ) (h : a ≤ℤ b) (k : c ≤ℤ d) where
  pub lesser_mono : lesser a c ≤ℤ lesser b d
  unfolding lesser
  lesser_mono = go (le_z a c) (le_z b d) refl refl
    where
      go : (x y : Bool) → le_z a c ≡ x → le_z b d ≡ y → cond x a c ≤ℤ cond y b d
      go true true e f = h
      go true false e f = ≤ℤ-trans a c d ((le_z_true a c).0 e) k
      go false true e f = ≤ℤ-trans c a b ((le_z_true c a).0 (le_z_total a c e)) h
      go false false e f = k

  pub greater_mono : greater a c ≤ℤ greater b d
  unfolding greater
  greater_mono = go (le_z a c) (le_z b d) refl refl
    where
      go : (x y : Bool) → le_z a c ≡ x → le_z b d ≡ y → cond x c a ≤ℤ cond y d b
      go true true e f = k
      go true false e f = ≤ℤ-trans c d b k ((le_z_true d b).0 (le_z_total b d f))
      go false true e f = ≤ℤ-trans a b d h ((le_z_true b d).0 f)
      go false false e f = h
