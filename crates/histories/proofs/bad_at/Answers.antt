-- `histories::bad_at` meets its contract: by the marks where they pass, else by the records.
use mathlib.Core.Path.{sym, ap}
use native.Mathlib.Omega.{arith}
use lib.ListN.{length}
use Rattle.histories.proofs.Parts.{part_few, none_bad, bad_is}
use Rattle.histories.proofs.bad_at.Goals as goal

-- src/lib.rt:99:8
pub are_bools-requires : goal.are_bools-requires
are_bools-requires c =
    let few = part_few c.args.m c.args.inputs.now c.args.t in
    omega (arith, few, c.requires.2, ap length c.inputs_at-numbers.ensures)

-- src/lib.rt:100:9
pub returns-then-are_bools : goal.returns-then-are_bools
returns-then-are_bools c = sym (none_bad _ _ c.args.m c.args.t c.args.bools.now c.requires.1 c.requires.4 c.inputs_at-numbers.result.now c.inputs_at-numbers.ensures (c.are_bools.ensures c.if-are_bools.true))

-- src/lib.rt:94:1
pub returns : goal.returns
returns c = bad_is _ _ c.args.m c.args.t _ _ c.requires.0 c.requires.1 c.inputs_at-numbers.ensures c.first_bad.ensures
