-- `streams::worked_out` meets its contract. The loop's invariant: 64 signed bits hold the values of the streams passed, and the array
-- holds them.
use mathlib.Core.Path.{◌≡◌, refl, sym, ◌∙◌, ap, subst}
use native.Mathlib.Omega.{arith}
use lib.ListN.{length-set}
use mir.Syntax.{w64}
use mir.Val.{SFits}
use mir.Facts.{to_z-of_z}
use Rattle.std.specs.Prelude.{Some}
use Rattle.node.specs.Layout.{streams_of}
use Rattle.streams.proofs.Turns.{ordered, few, size_is, size_read, in_streams, stream_is, in_array, row_worked}
use Rattle.streams.proofs.WorkingOut.{WorkedTo, worked_start, worked_end, worked_more, first_outside, none_outside}
use borrow.Author.Rules.{rules}
use Rattle.streams.proofs.values.worked_out.Goals as goal

pub spread-given-requires : goal.spread-given-requires
spread-given-requires c = (size_read _ _ c.requires, omega (arith, size_is _ _ c.requires, few _ _ c.requires))

pub loop-i-init : goal.loop-i-init
loop-i-init c = (refl, worked_start c.args.file.now c.args.inputs.now c.args.first c.args.past.now)

pub offset_bounds-given-i : goal.offset_bounds-given-i
offset_bounds-given-i c = omega (arith, in_array _ _ c.requires _ c.loop-i-test.true)

pub bounds-given-i : goal.bounds-given-i
bounds-given-i c = in_array _ _ c.requires _ c.loop-i-test.true

pub returns-in_default-clause-outside_value : goal.returns-in_default-clause-outside_value
returns-in_default-clause-outside_value c =
    let a = c.args in
    let l = c.loop-i-test.true in
    let none_is = row_worked _ _ c.requires _ l a.inputs.now a.first a.past.now c.loop-i.values c.spread-given.result c.value.ensures c.equation_among.ensures
    (search rules) c.spread-given.ensures in
    sym (first_outside a.file.now a.inputs.now a.first a.past.now (ordered _ _ c.requires) c.loop-i.values _ (in_streams _ _ c.requires _ l) c.loop-i.invariant.1
    (sym none_is ∙ c.in_default.is) ∙ ap Some (sym (stream_is _ _ c.requires _ l)))

pub offset_bounds-values-i : goal.offset_bounds-values-i
offset_bounds-values-i c = omega (arith, in_array _ _ c.requires _ c.loop-i-test.true)

pub bounds-values-i : goal.bounds-values-i
bounds-values-i c = in_array _ _ c.requires _ c.loop-i-test.true

pub loop-i-preserved : goal.loop-i-preserved
loop-i-preserved c =
    let a = c.args in
    let inv = c.loop-i.invariant in
    let l = c.loop-i-test.true in
    let v : SFits w64 c.in-Some.v = search rules in
    let some_is = row_worked _ _ c.requires _ l a.inputs.now a.first a.past.now c.loop-i.values c.spread-given.result c.value.ensures c.equation_among.ensures
    (search rules) c.spread-given.ensures in (
      simp length-set inv.0,
      rw (to_z-of_z v, stream_is _ _ c.requires _ l)
          (worked_more a.file.now a.inputs.now a.first a.past.now (ordered _ _ c.requires) c.loop-i.values _ (in_streams _ _ c.requires _ l) inv.1
          c.in-Some.v (sym some_is ∙ c.in-Some.is) (omega (arith, inv.0, in_array _ _ c.requires _ l, stream_is _ _ c.requires _ l))),
    )

pub returns : goal.returns
returns c =
    let a = c.args in
    let all : c.loop-i.i-index ≡ streams_of a.file.now = omega (arith, c.loop-i-test.false, c.loop-i.auto.i-index-end, size_is _ _ c.requires) in
    let worked = subst (WorkedTo a.file.now a.inputs.now a.first a.past.now c.loop-i.values) all c.loop-i.invariant.1 in
    record {
      outside_value = sym (none_outside a.file.now a.inputs.now a.first a.past.now (ordered _ _ c.requires) c.loop-i.values worked);
      values_value = worked_end a.file.now a.inputs.now a.first a.past.now (ordered _ _ c.requires) c.loop-i.values (few _ _ c.requires) c.loop-i.invariant.0 worked;
    }
