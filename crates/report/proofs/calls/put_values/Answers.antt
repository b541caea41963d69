-- `report::put_values` meets its contract. The loop's invariant: the text of the values passed is in the buffer.
use mathlib.Core.Path.{refl, sym}
use native.Mathlib.Omega.{arith}
use borrow.Author.Rules.{rules}
use lib.IntN.{pos}
use lib.ListN.{get_or}
use mir.Syntax.{w64}
use mir.ValLaws.{to_z-of_z}
use Rattle.report.proofs.Texts.{then, nothing}
use Rattle.report.specs.Call.{values_text}
use Rattle.report.proofs.Values.{text_more}
use Rattle.report.proofs.calls.put_values.Goals as goal

pub loop-x-init : goal.loop-x-init
unfolding values_text
loop-x-init c = (search rules, refl, nothing _ _)

pub loop-x-preserved : goal.loop-x-preserved
loop-x-preserved c =
    let l = c.loop-x in
    let a = c.args in
    let one = c.put_signed-past.ensures in (
      omega (arith, one.1, l.invariant.0),
      search rules,
      rw (sym (text_more a.values.now l.x-index c.loop-x-test.true)) (then l.invariant.2 (rw (to_z-of_z w64 (get_or a.values.now l.x-index (pos 0)) (search rules)) at one.0)),
    )
