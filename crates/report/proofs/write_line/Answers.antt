-- `report::write_line` meets its contract.
use native.Mathlib.Omega.{arith}
use Rattle.report.specs.Line.{line_of}
use Rattle.report.proofs.Texts.{from_start}
use Rattle.report.proofs.write_line.Goals as goal

pub returns-in-Ok : goal.returns-in-Ok
unfolding line_of
returns-in-Ok c =
    let w = from_start c.put_accepted.ensures.0 (omega arith) in
    record { value = rw c.in-Ok.is w.0; leading = w.1 }

pub returns-in-Err : goal.returns-in-Err
unfolding line_of
returns-in-Err c =
    let w = from_start c.put_refused.ensures.0 (omega arith) in
    record { value = rw c.in-Err.is w.0; leading = w.1 }
