-- `report::put_number` meets its contract.
use Rattle.std.proofs.Common.{arith}
use Rattle.report.proofs.Digits.{decimal_small, decimal_larger, length_small, length_larger}
use Rattle.report.proofs.Texts.{then}
use Rattle.report.proofs.text.+put_number.Goals as goal

pub put_digit-requires : goal.put_digit-requires
put_digit-requires t c = omega (arith, length_small c.args.n (omega arith))

pub returns-then-n-lt10 : goal.returns-then-n-lt10
returns-then-n-lt10 t c = rw (decimal_small c.args.n (omega arith)) c.put_digit.ensures

pub put_number-last-requires : goal.put_number-last-requires
put_number-last-requires t c = omega (arith, length_larger c.args.n (omega arith), c.decreases)

pub put_digit-requires-2 : goal.put_digit-requires-2
put_digit-requires-2 t c = omega (arith, length_larger c.args.n (omega arith))

pub returns : goal.returns
returns t c =
    rw (decimal_larger c.args.n (omega arith)) (then c.put_number-last.ensures c.put_digit-2.ensures)
