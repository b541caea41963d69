-- `streams::is_equal` meets its contract: the machine's test is that of each being at most the other.
use mathlib.Core.Path.{◌∙◌, ap₂}
use Rattle.streams.specs.Values.{equals}
use Rattle.streams.proofs.Numbers.{equals_is}
use borrow.Author.Rules.{rules}
use Rattle.streams.proofs.operands.is_equal.Goals as goal

pub returns : goal.returns
returns c = equals_is _ _ (search rules) (search rules) ∙ ap₂ equals c.entry.ensures c.entry-2.ensures
