-- `look_ups::size_of` meets its contract.
use mathlib.Core.Path.{◌∙◌}
use Rattle.numbers.proofs.Capped.{capped}
use Rattle.look_ups.specs.Questions.{size_of}
use Rattle.look_ups.proofs.size_of.Goals as goal

pub returns : goal.returns
unfolding size_of
returns c = c.min.ensures ∙ capped _ 2048
