-- `streams::is_true` meets its contract: the test is that of equality with 1.
use mathlib.Core.Path.{◌∙◌, ap}
use lib.IntN.{pos}
use Rattle.streams.specs.Values.{truth}
use Rattle.streams.proofs.Numbers.{equals_is}
use borrow.Author.Rules.{rules}
use Rattle.streams.proofs.operands.is_true.Goals as goal

pub returns : goal.returns
unfolding truth
returns c = equals_is _ (pos 1) (search rules) (search rules) ∙ ap truth c.entry.ensures
