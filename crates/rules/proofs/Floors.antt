-- "B divided by r, rounded toward minus infinity", without a division: r times the bound is at most B, and r more is past it.
-- Assumes nothing.
use mathlib.Core.Path.{◌≡◌, sym, subst}
use mathlib.Core.Bool.{◌&&◌}
use Prim.Native.Nat.{ℕ, ◌+◌, ◌*◌, ◌/◌, ◌≤◌, ◌<◌}
use native.Mathlib.Nat.{div-add-mod, mod-lt, lt_of_mul-lt-mul_left}
use native.Mathlib.Omega.{arith}
use lib.IntN.{ℤ, pos, negsuc, ◌+ℤ◌, ◌*ℤ◌}
use lib.Signed.{le_z, lt_z, ◌≤ℤ◌, ◌<ℤ◌}
use Rattle.std.proofs.lemmas.Int.{ints}
use Rattle.integers.proofs.Diff.{zify, by_diff3}
use Rattle.integers.proofs.Order.{≤ℤ-antisym, le_z_true, lt_z_true}
use Rattle.answers.proofs.Tests.{both_true, same_test}
use Rattle.constraints.specs.Linear.{same_z}
use Rattle.rules.specs.Cuts.{floor_over}
use Rattle.rules.proofs.Contents.{same_means, same_test as same_number}

-- r times f is at most b, and r more is past it
abbrev pub IsFloor : (r : ℕ) → (f b : ℤ) → Type 0
IsFloor r f b = ((pos r *ℤ f) ≤ℤ b) × (b <ℤ (pos r *ℤ f +ℤ pos r))

above : (r q b : ℕ) → r * q ≤ b → b < r * q + r → IsFloor r (pos q) (pos b)
above r q b h k = grind (arith, ints)

below : (r q b : ℕ) → r * q ≤ b → b < r * q + r → IsFloor r (negsuc q) (negsuc b)
below r q b h k = grind (arith, ints)

pub floor_is : (r : ℕ) → 1 ≤ r → (b : ℤ) → IsFloor r (floor_over b r) b
floor_is r some (pos b) = above r (b / r) b (omega (arith, div-add-mod b r)) (omega (arith, div-add-mod b r, mod-lt b some))
floor_is r some (negsuc b) = below r (b / r) b (omega (arith, div-add-mod b r)) (omega (arith, div-add-mod b r, mod-lt b some))

-- only one number is so
at_most : (r : ℕ) (f g b : ℤ) → (pos r *ℤ f) ≤ℤ b → b <ℤ (pos r *ℤ g +ℤ pos r) → f ≤ℤ g
at_most r = by_diff3 _ (λ p q s t u v. simp zify (λ h k.
    let less : p + t < s + q + 1 = lt_of_mul-lt-mul_left r (omega arith) in
    omega (arith, less)))

one_floor : (r : ℕ) (f g b : ℤ) → IsFloor r f b → IsFloor r g b → f ≡ g
one_floor r f g b h k = ≤ℤ-antisym f g (at_most r f g b h.0 k.1) (at_most r g f b k.0 h.1)

-- the test without a division
pub floor_test : (r : ℕ) → 1 ≤ r → (f b : ℤ) → same_z f (floor_over b r) ≡ (lt_z b (pos r *ℤ f +ℤ pos r) && le_z (pos r *ℤ f) b)
floor_test r some f b =
    same_test (same_z f (floor_over b r)) (lt_z b (pos r *ℤ f +ℤ pos r) && le_z (pos r *ℤ f) b)
    (λ e.
    let is = subst (λ (g : ℤ). IsFloor r g b) (sym (same_means f (floor_over b r) e)) (floor_is r some b) in
    rw ((le_z_true (pos r *ℤ f) b).1 is.0, (lt_z_true b (pos r *ℤ f +ℤ pos r)).1 is.1))
    (λ e.
    let both = both_true (lt_z b (pos r *ℤ f +ℤ pos r)) (le_z (pos r *ℤ f) b) e in
    same_number f (floor_over b r)
    (one_floor r f (floor_over b r) b ((le_z_true (pos r *ℤ f) b).0 both.1, (lt_z_true b (pos r *ℤ f +ℤ pos r)).0 both.0) (floor_is r some b)))
