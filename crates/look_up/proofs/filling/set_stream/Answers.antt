-- `look_up::set_stream` meets its contract: instant after instant.
use mathlib.Core.Path.{◌∙◌, ap}
use mathlib.Core.List.{List}
use lib.IntN.{ℤ}
use mir.Syntax.{w64}
use mir.Val.{SFits}
use mir.Facts.{to_z-of_z}
use Rattle.streams.specs.Values.{values_in}
use Prim.Native.Nat.{◌+◌, ◌*◌, ◌<◌}
use lib.ListN.{length}
use native.Mathlib.Numerals.{add-one}
use native.Mathlib.Omega.{arith}
use borrow.Author.Rules.{rules}
use Rattle.integers.proofs.Within.{inside_fits}
use Rattle.histories.proofs.Parts.{within}
use Rattle.look_up.proofs.Rows.{stream_none, stream_more}
use Rattle.look_up.proofs.filling.set_stream.Goals as goal

-- src/filling.rt:21:5
pub loop-t-init : goal.loop-t-init
loop-t-init c = stream_none _ _ _ _ _

-- src/filling.rt:22:40
pub inputs_at-requires : goal.inputs_at-requires
inputs_at-requires c = within _ _ _ _ c.args.history.now.counted c.loop-t-test.true

-- src/filling.rt:21:5
pub loop-t-preserved : goal.loop-t-preserved
loop-t-preserved c =
    let fits : 64 * c.loop-t.t + c.args.s < length c.args.table.now = omega (arith, c.requires.0, c.requires.1, c.requires.2, c.loop-t-test.true) in
    let g : SFits w64 c.number_at.result = search rules in
    let is = c.number_at.ensures ∙ ap (λ (l : List ℤ). values_in l c.args.j) c.inputs_at.ensures in
    rw (add-one, to_z-of_z g, is) (stream_more _ _ _ _ _ _ _ fits c.requires.0 (rw is at ((inside_fits c.number_at.result).1 g)) c.loop-t.invariant)
