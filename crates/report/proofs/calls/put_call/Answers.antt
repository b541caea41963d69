-- `report::put_call` meets its contract.
use Rattle.report.specs.Call.{call_line}
use Rattle.report.proofs.calls.put_call.Goals as goal

pub returns-in-Ok : goal.returns-in-Ok
unfolding call_line
returns-in-Ok c = rw c.in-Ok.is c.put_answered.ensures

pub returns-in-Err : goal.returns-in-Err
unfolding call_line
returns-in-Err c = rw c.in-Err.is c.put_not_answered.ensures
