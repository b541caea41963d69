-- `histories::bools_of` meets its contract: record after record.
use mathlib.Core.Path.{◌≡◌, refl, ◌∙◌}
use mathlib.Core.List.{List}
use Prim.Native.Nat.{ℕ, ◌<◌, ◌≤◌}
use native.Mathlib.Numerals.{add-one}
use native.Mathlib.Omega.{arith}
use lib.ListN.{length-set}
use Rattle.node.proofs.InputCounts.{inputs_more}
use Rattle.node.specs.Inputs.{inputs_below}
use Rattle.histories.proofs.Parts.{below_few, mark_more}
use Rattle.histories.proofs.bools_of.Goals as goal

pub loop-i-init : goal.loop-i-init
unfolding inputs_below
loop-i-init c = (refl, refl, λ i l. absurd (omega (arith, l)))

-- an input's number is below the count of records
few : (file : List ℕ) (i : ℕ) {j n : ℕ} → i < n → n ≤ 64 → j ≡ inputs_below file i → j < 64
few file i l m e = let b = below_few file i in omega arith

pub bounds-bools-j : goal.bounds-bools-j
bounds-bools-j c = few _ _ c.loop-i-test.true c.requires.1 c.loop-i.invariant.0

pub bounds-bools-j-in-loop-i : goal.bounds-bools-j-in-loop-i
bounds-bools-j-in-loop-i c = few _ _ c.loop-i-test.true c.requires.1 c.loop-i.invariant.0

pub loop-i-preserved : goal.loop-i-preserved
loop-i-preserved c =
    let file = c.args.file.now in
    let i = c.loop-i.i in
    let inv = c.loop-i.invariant in
    let j = few file i c.loop-i-test.true c.requires.1 inv.0 in (
      c.with_record-j.ensures ∙ inputs_more file _ i _ c.requires.0 (omega (arith, j)) inv.0,
      length-set c.loop-i.bools c.loop-i.j _ ∙ inv.1,
      rw (add-one, c.is_bool_input.ensures, c.requires.0) (mark_more file i c.loop-i.bools inv.2 c.loop-i.j inv.0 (omega (arith, j, inv.1))),
    )
