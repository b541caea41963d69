-- `constraints::fixed_ok` meets its contract: the comparisons in a row.
use Rattle.constraints.specs.Rules.{fixed_ok}
use Rattle.constraints.proofs.rules.fixed_ok.Goals as goal

pub returns : goal.returns
unfolding fixed_ok
returns c = cc
