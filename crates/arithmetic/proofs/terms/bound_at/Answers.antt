-- `arithmetic::bound_at` meets its contract: a bound that was read within the file, and a product that fits.
use Prim.Native.Nat.{◌+◌, ◌≤◌}
use native.Mathlib.Omega.{arith}
use borrow.Author.Rules.{rules}
use lib.IntN.{nat_abs}
use mir.Syntax.{w64}
use mir.Val.{SFits}
use mir.Facts.{to_z-of_z}
use Rattle.integers.proofs.Reading.{rd}
use Rattle.arithmetic.specs.Sums.{place_of}
use Rattle.arithmetic.proofs.Words.{multiplier_word, bound_read}
use Rattle.arithmetic.proofs.Adding.{opposite_within}
use Rattle.arithmetic.proofs.terms.bound_at.Goals as goal

pub product-requires : goal.product-requires
product-requires c =
    let v = c.opposite_bound-bound in
    let place = place_of c.args.file.now c.args.start c.args.at c.args.j in
    let read =
    bound_read c.args.file.now c.constraint_head-head.result c.place_of.result place
    (record { sfits = c.struct_told-1.given.1.1.0.1 })
    c.constraint_head-head.ensures
    c.place_of.ensures in
    let small : nat_abs (rd w64 c.constraint_head-head.result.bound) ≤ 100000000000 = rw read c.requires.summable.limited.bound in
    let f : SFits w64 v.result = search rules in
    let w : nat_abs v.result ≤ nat_abs (rd w64 c.constraint_head-head.result.bound) + 1 =
    rw v.ensures (opposite_within _ _) in (
      rw (multiplier_word c.multiplier_at.result (omega arith)) (omega arith),
      rw (to_z-of_z f) (omega (arith, small)),
    )
