-- `ranges::range_ok` meets its contract: the machine's tests of a bool's ends are those of equality with 0.
use mathlib.Core.Path.{sym, ◌∙◌}
use lib.IntN.{pos}
use borrow.Author.Tests.{eq-eqb, ne_eqb}
use borrow.Author.Rules.{rules}
use Rattle.streams.proofs.Numbers.{equals_is}
use Rattle.ranges.specs.Table.{range_ok}
use Rattle.ranges.proofs.table.range_ok.Goals as goal

pub returns-then-r-eq0 : goal.returns-then-r-eq0
unfolding range_ok
returns-then-r-eq0 c =
    rw (c.in-Bool.is, sym (equals_is c.args.r.least (pos 0) (search rules) (search rules)) ∙ eq-eqb _ _ c.if-r-eq0.true)
    (equals_is c.args.r.greatest (pos 0) (search rules) (search rules))

pub returns-else-r-eq0 : goal.returns-else-r-eq0
unfolding range_ok
returns-else-r-eq0 c =
    let not_0 = ne_eqb _ _ c.if-r-eq0.false in
    rw (c.in-Bool.is, sym (equals_is c.args.r.least (pos 0) (search rules) (search rules)) ∙ not_0) not_0
