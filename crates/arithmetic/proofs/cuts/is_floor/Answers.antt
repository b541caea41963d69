-- `arithmetic::is_floor` meets its contract: r times the bound fits, and so does r more.
use mathlib.Core.Path.{◌≡◌, sym, ◌∙◌}
use Prim.Native.Nat.{◌*◌, ◌≤◌}
use native.Mathlib.Nat.{le_refl}
use native.Mathlib.Omega.{arith}
use borrow.Author.Rules.{rules}
use lib.IntN.{pos, nat_abs, ◌*ℤ◌}
use mir.Syntax.{w64}
use mir.Val.{SFits}
use mir.Facts.{to_z-of_z}
use Rattle.integers.proofs.Abs.{abs_fits, bound_add, bound_mul}
use Rattle.integers.proofs.Reading.{rd}
use Rattle.rules.proofs.Floors.{floor_test}
use Rattle.arithmetic.proofs.Words.{multiplier_word}
use Rattle.arithmetic.proofs.cuts.is_floor.Goals as goal

pub overflow_add-result : goal.overflow_add-result
overflow_add-result c =
    let least_is : (rd w64 c.product-least.result ≡ pos c.args.r *ℤ rd w64 c.args.bound) = let f : SFits w64 c.product-least.result = search rules in
    to_z-of_z f ∙ rw (multiplier_word c.args.r (omega arith)) at c.product-least.ensures in
    let r = c.args.r in
    let bound = rd w64 c.args.bound in
    let small : nat_abs bound ≤ 100000000000 = rw (to_z-of_z c.ranges.bound) (omega arith) in
    let least : nat_abs (pos r *ℤ bound) ≤ 65535 * 100000000000 = bound_mul 65535 100000000000 (pos r) bound (omega arith) small in
    let sum = bound_add (65535 * 100000000000) r (pos r *ℤ bound) (pos r) least (le_refl r) in
    rw (least_is, multiplier_word r (omega arith)) (abs_fits w64 _ (omega (arith, sum)))

pub returns : goal.returns
returns c =
    let least_is : (rd w64 c.product-least.result ≡ pos c.args.r *ℤ rd w64 c.args.bound) = let f : SFits w64 c.product-least.result = search rules in
    to_z-of_z f ∙ rw (multiplier_word c.args.r (omega arith)) at c.product-least.ensures in
    rw (to_z-of_z (overflow_add-result c), least_is, multiplier_word c.args.r (omega arith), to_z-of_z c.ranges.bound, to_z-of_z c.ranges.sum)
    (sym (floor_test c.args.r c.requires.0 c.args.bound c.args.sum))
