-- `constraints::counts_ok` meets its contract: the comparisons in a row.
use Rattle.constraints.specs.Rules.{counts_ok}
use Rattle.constraints.proofs.rules.counts_ok.Goals as goal

pub returns : goal.returns
unfolding counts_ok
returns c = cc
