-- `session::shown` meets its contract: an answered call fills the slice, a refused one leaves it.
use mathlib.Core.Path.{sym, ◌∙◌, ap}
use mathlib.Core.List.{List}
use native.Mathlib.Omega.{arith}
use lib.IntN.{ℤ}
use Rattle.answers.proofs.Checks.{handed_on}
use Rattle.answers.specs.Answer.{answer_map}
use Rattle.session.proofs.Answering.{answered_few, room_is, writes, refused_keeps}
use Rattle.session.proofs.making.shown.Goals as goal

pub returns-in_err-values : goal.returns-in_err-values
returns-in_err-values c =
    let a = c.args in
    let e = c.in_err-values.ensures.answer_value in
    let refused_so = handed_on _ c.from_residual.ensures in
    (ap (answer_map (λ (values : List ℤ). tt)) refused_so ∙ e, rw refused_so tt, sym (refused_keeps a.s.now a.inputs.now a.out.now (sym e)).2)

pub slice_bounds-values-end : goal.slice_bounds-values-end
slice_bounds-values-end c = omega (arith, answered_few _ _ _ (sym c.in_ok-values.ensures.answer_value))

pub slice_bounds-copy_from_slice-end : goal.slice_bounds-copy_from_slice-end
slice_bounds-copy_from_slice-end c = room_is _ _ c.args.out.now _ (sym c.in_ok-values.ensures.answer_value) (omega arith)

pub copy_from_slice-requires : goal.copy_from_slice-requires
copy_from_slice-requires c = room_is _ _ c.args.out.now _ (sym c.in_ok-values.ensures.answer_value) (omega arith)

pub returns : goal.returns
returns c =
    let a = c.args in
    let said = c.in_ok-values.ensures in (
      said.answer_value,
      said.values_value,
      c.copy_from_slice.ensures.after ∙ writes a.s.now a.inputs.now a.out.now _ (sym said.answer_value) said.values_value,
    )
