-- `streams::first_bad` meets its contract. The loop's invariant: the inputs of the records passed fit, and are counted.
use mathlib.Core.Path.{◌≡◌, refl, sym, ◌∙◌}
use native.Mathlib.Omega.{arith}
use borrow.Author.Count.{below_none, below_more}
use Rattle.answers.proofs.Lowest.{none, found}
use Rattle.node.specs.Inputs.{inputs_below}
use Rattle.node.proofs.InputCounts.{inputs_few, inputs_more}
use Rattle.streams.specs.Instant.{input_fits}
use Rattle.streams.proofs.inputs.first_bad.Goals as goal

pub loop-i-init : goal.loop-i-init
unfolding inputs_below
loop-i-init c = (c.records_of-n.ensures, refl, below_none _)

pub returns-then-not-input_fits : goal.returns-then-not-input_fits
unfolding input_fits
returns-then-not-input_fits c =
    let fits_is : (input_fits c.args.file.now c.args.inputs.now c.loop-i.i ≡ c.input_fits.result) = rw (← c.loop-i.invariant.1) (sym c.input_fits.ensures) in
    let inv = c.loop-i.invariant in
    sym (found _ _ _ (rw inv.0 at c.loop-i-test.true) inv.2 (fits_is ∙ c.if-not-input_fits.true))

pub loop-i-preserved : goal.loop-i-preserved
unfolding input_fits
loop-i-preserved c =
    let fits_is : (input_fits c.args.file.now c.args.inputs.now c.loop-i.i ≡ c.input_fits.result) = rw (← c.loop-i.invariant.1) (sym c.input_fits.ensures) in
    let inv = c.loop-i.invariant in
    let few = inputs_few _ _ _ _ inv.0 c.loop-i-test.true inv.1 c.well_formed.0.0 in (
      inv.0,
      c.with_record-j.ensures ∙ inputs_more _ _ _ _ inv.0 few inv.1,
      below_more _ _ inv.2 (fits_is ∙ c.if-not-input_fits.false),
    )

pub returns : goal.returns
returns c = sym (none _ _ (λ k l. c.loop-i.invariant.2 k (omega (arith, c.loop-i.invariant.0))))
