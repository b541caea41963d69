-- `report::write_call` meets its contract: the first values of the slice, where `room` is more, are all.
use native.Mathlib.Omega.{arith}
use Rattle.report.proofs.Texts.{from_start}
use Rattle.report.proofs.Values.{first}
use Rattle.report.proofs.write_call.Goals as goal

pub returns-clause-value : goal.returns-clause-value
returns-clause-value c = rw (first c.args.room c.args.slice {n = c.min.result} (omega arith) (omega (arith, c.min.ensures))) at (from_start c.put_call.ensures.0 (omega arith)).0
