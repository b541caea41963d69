-- `streams::whole` meets its contract: 64 signed bits hold the number already.
use Rattle.streams.proofs.Results.{whole_is}
use Rattle.streams.proofs.operators.whole.Goals as goal

pub returns : goal.returns
returns c = whole_is c.args.x c.ranges.x
