-- `constraints::distance_ok` meets its contract: the comparisons in a row.
use Rattle.constraints.specs.Rules.{distance_ok}
use Rattle.constraints.proofs.rules.distance_ok.Goals as goal

pub returns : goal.returns
unfolding distance_ok
returns c = cc
