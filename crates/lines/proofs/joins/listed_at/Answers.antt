-- `lines::listed_at` meets its contract: the lesser of the count and twelve.
use Rattle.std.proofs.Common.{rules}
use Rattle.constraints.specs.Layout.{listed_in}
use Rattle.lines.proofs.joins.listed_at.Goals as goal

pub returns : goal.returns
unfolding listed_in
returns c = search rules
