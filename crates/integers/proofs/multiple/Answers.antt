-- `integers::multiple` meets its contract: the product's magnitude is the product of the two magnitudes, and the test of the
-- quotient says whether it is at most 2^63, past which nothing fits.
use mathlib.Core.Path.{sym, ap, ◌∙◌}
use native.Mathlib.Omega.{arith}
use lib.IntN.{pos, nat_abs}
use mir.Syntax.{w64}
use mir.Facts.{to_z-of_z, sfits_lit}
use Rattle.integers.specs.Range.{checked_of}
use Rattle.integers.proofs.Product.{product_sign, product_zero, product_within, product_past}
use Rattle.integers.proofs.Within.{within, outside}
use Rattle.integers.proofs.multiple.Goals as goal

pub returns-then-m-eq0 : goal.returns-then-m-eq0
returns-then-m-eq0 c =
    let s = c.before.before.before in
    let m = c.before.before.magnitude-m.ensures ∙ ap nat_abs (to_z-of_z s.ranges.k) in
    sym (ap checked_of (product_zero s.args.k s.args.a (sym m ∙ c.if-m-eq0.true)) ∙ within (pos 0) (sfits_lit tt))

pub returns-then-m-n : goal.returns-then-m-n
returns-then-m-n c =
    let s = c.before.before.before.before in
    let m = c.before.before.before.magnitude-m.ensures ∙ ap nat_abs (to_z-of_z s.ranges.k) in
    let n = c.before.before.magnitude-n.ensures ∙ ap nat_abs (to_z-of_z s.ranges.a) in
    sym (outside _ (product_past w64 s.args.k s.args.a (omega arith) (omega arith) (rw (m, n) at c.if-m-n.true)))

pub overflow_mul-m : goal.overflow_mul-m
overflow_mul-m c = omega (arith, product_within (omega arith) c.if-m-n.false)

pub returns : goal.returns
returns c =
    let s = c.before.before.before.before.before in
    let m = c.before.before.before.before.magnitude-m.ensures in
    let n = c.before.before.before.magnitude-n.ensures in
    c.signed.ensures
    ∙ ap checked_of (simp (to_z-of_z s.ranges.k, to_z-of_z s.ranges.a, m, n) (product_sign s.args.k s.args.a))
