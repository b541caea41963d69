-- `streams::spread` meets its contract. The loop's invariant: the streams passed have their inputs, and those among them are counted.
use mathlib.Core.Path.{refl, ◌∙◌, ap}
use Prim.Native.Nat.{◌<◌, ◌^◌}
use native.Mathlib.Nat.{not-suc-le-zero}
use native.Mathlib.Omega.{arith}
use lib.IntN.{pos}
use lib.ListN.{length-set}
use mir.Syntax.{w64}
use mir.Val.{SFits}
use mir.Facts.{to_z-of_z}
use Rattle.answers.proofs.Entries.{entries_more}
use Rattle.node.specs.Inputs.{inputs_below}
use Rattle.node.proofs.InputCounts.{inputs_le, inputs_more}
use Rattle.streams.specs.Nodes.{node_of}
use Rattle.streams.specs.Typing.{given}
use Rattle.streams.specs.Values.{values_in}
use borrow.Author.Rules.{rules}
use Rattle.streams.proofs.values.spread.Goals as goal

pub loop-i-init : goal.loop-i-init
unfolding inputs_below
loop-i-init c = (refl, refl, λ k l. absurd (not-suc-le-zero l))

pub loop-i-preserved : goal.loop-i-preserved
loop-i-preserved c =
    let inv = c.loop-i.invariant in
    let fits : c.loop-i.j < 2 ^ 63 = omega (arith, inputs_le c.args.file.now c.loop-i.i, inv.1, c.loop-i-test.true, c.requires.1) in
    let f : SFits w64 c.number_at.result = search rules in (
      simp length-set inv.0,
      c.with_record-j.ensures ∙ inputs_more _ _ _ _ c.requires.0 fits inv.1,
      entries_more (given (node_of c.args.file.now) c.args.inputs.now) (pos 0) c.loop-i.given c.loop-i.i inv.2 (omega (arith, inv.0, c.loop-i-test.true, c.requires.1))
          (to_z-of_z f ∙ c.number_at.ensures ∙ ap (values_in c.args.inputs.now) inv.1),
    )

pub returns : goal.returns
returns c = λ k l. c.loop-i.invariant.2 k (omega arith)
