-- `certificate::is_rising` meets its contract: the comparisons in a row.
use mathlib.Core.Path.{refl}
use Rattle.constraints.specs.Rules.{rises}
use Rattle.certificate.proofs.constraint_rules.is_rising.Goals as goal

pub returns : goal.returns
unfolding rises
returns c = refl
