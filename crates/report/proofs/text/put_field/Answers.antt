-- `report::put_field` meets its contract.
use native.Mathlib.Omega.{arith}
use Rattle.report.proofs.Digits.{twenty}
use Rattle.report.proofs.Texts.{then}
use Rattle.report.proofs.text.put_field.Goals as goal

pub put_number-requires : goal.put_number-requires
put_number-requires c =
    omega (arith, twenty c.args.n c.ranges.n.fits)

pub returns : goal.returns
returns c = (
  then c.put-next.ensures c.put_number.ensures,
  omega (arith, twenty c.args.n c.ranges.n.fits),
)
