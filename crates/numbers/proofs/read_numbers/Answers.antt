-- `numbers::read_numbers` meets its contract: at the end the numbers passed are all.
use native.Mathlib.Omega.{arith}
use Rattle.numbers.proofs.Rows.{numbers_are}
use Rattle.numbers.proofs.read_numbers.Goals as goal

pub returns : goal.returns
returns c =
    let row = c.loop-i.invariant in
    numbers_are c.args.bytes.now _ c.loop-i.out row.0 (λ x l. row.1 x (omega (arith, row.0, c.loop-i-test.false)))
