-- `arithmetic::add_terms` meets its contract. The loop's invariant: the terms passed are added.
use mathlib.Core.Path.{◌≡◌, refl}
use Prim.Native.Nat.{◌≤◌, ◌<◌}
use native.Mathlib.Omega.{arith}
use lib.IntN.{nat_abs}
use lib.ListN.{length-set}
use mir.Syntax.{w64}
use mir.Facts.{to_z-of_z}
use Rattle.integers.proofs.Reading.{rd}
use Rattle.constraints.specs.Layout.{constraint_at, used_in}
use Rattle.constraints.specs.Linear.{written}
use Rattle.constraints.proofs.Blocks.{used_few}
use Rattle.arithmetic.specs.Sums.{add_form}
use Rattle.arithmetic.proofs.Turns.{count_used, term_fits, term_turn}
use Rattle.arithmetic.proofs.terms.add_terms.Goals as goal

pub loop-j-init : goal.loop-j-init
unfolding add_form written
loop-j-init c = (refl, refl)

pub weighted_at-weighted-requires : goal.weighted_at-weighted-requires
weighted_at-weighted-requires c =
    let e = count_used c.args.file.now c.args.at c.requires.summable _ c.constraint_head-head.ensures in
    let l : c.loop-j.j < used_in (constraint_at c.args.file.now c.args.at) = omega (arith, e) in record { at_in_bounds = (c.requires.summable.room, omega (arith, used_few (constraint_at c.args.file.now c.args.at))); factor_bound = (rw (to_z-of_z c.ranges.factor) c.requires.factor_bound, c.requires.summable.limited.coefficients c.loop-j.j l) }

pub slice_copy_out-sums : goal.slice_copy_out-sums
slice_copy_out-sums c =
    let named_below : (c.variable_at-x.result < 576) = let e = count_used c.args.file.now c.args.at c.requires.summable _ c.constraint_head-head.ensures in
    let l : c.loop-j.j < used_in (constraint_at c.args.file.now c.args.at) = omega (arith, e) in
    rw c.variable_at-x.ensures (c.requires.summable.limited.variables c.loop-j.j l) in
    omega (arith, named_below, c.loop-j.invariant.0, c.requires.sums_len.0)

pub overflow_add-sums : goal.overflow_add-sums
overflow_add-sums c =
    let e = count_used c.args.file.now c.args.at c.requires.summable _ c.constraint_head-head.ensures in
    let l : c.loop-j.j < used_in (constraint_at c.args.file.now c.args.at) = omega (arith, e) in
    let small : nat_abs (rd w64 c.args.factor) ≤ 1000000 = rw (to_z-of_z c.ranges.factor) c.requires.factor_bound in
    term_fits c.args.file.now c.args.at c.requires.summable (rd w64 c.args.factor) small c.args.sums.now
    c.requires.sums_len.0
    c.requires.sums_len.1
    c.loop-j.sums
    c.loop-j.j
    c.variable_at-x.result
    c.weighted_at-weighted.result
    l
    c.loop-j.invariant.1
    c.variable_at-x.ensures
    c.weighted_at-weighted.ensures

pub bounds-sums-x : goal.bounds-sums-x
bounds-sums-x c =
    let named_below : (c.variable_at-x.result < 576) = let e = count_used c.args.file.now c.args.at c.requires.summable _ c.constraint_head-head.ensures in
    let l : c.loop-j.j < used_in (constraint_at c.args.file.now c.args.at) = omega (arith, e) in
    rw c.variable_at-x.ensures (c.requires.summable.limited.variables c.loop-j.j l) in
    omega (arith, named_below, c.loop-j.invariant.0, c.requires.sums_len.0)

pub loop-j-preserved : goal.loop-j-preserved
loop-j-preserved c =
    let e = count_used c.args.file.now c.args.at c.requires.summable _ c.constraint_head-head.ensures in
    let l : c.loop-j.j < used_in (constraint_at c.args.file.now c.args.at) = omega (arith, e) in
    let small : nat_abs (rd w64 c.args.factor) ≤ 1000000 = rw (to_z-of_z c.ranges.factor) c.requires.factor_bound in (
      simp length-set c.loop-j.invariant.0,
      term_turn c.args.file.now c.args.at c.requires.summable (rd w64 c.args.factor) small c.args.sums.now
          c.requires.sums_len.0
          c.requires.sums_len.1
          c.loop-j.sums
          c.loop-j.j
          c.variable_at-x.result
          c.weighted_at-weighted.result
          l
          c.loop-j.invariant.1
          c.variable_at-x.ensures
          c.weighted_at-weighted.ensures,
    )

pub returns : goal.returns
returns c =
    let e = count_used c.args.file.now c.args.at c.requires.summable _ c.constraint_head-head.ensures in
    let j-is : c.loop-j.j ≡ used_in (constraint_at c.args.file.now c.args.at) = omega (arith, e) in
    rw (to_z-of_z c.ranges.factor, j-is) at c.loop-j.invariant.1
