-- `node::lowest_unplaced` meets its contract: `find` finds the lowest record that is not placed.
use Rattle.std.proofs.Common.{rules, tests, arith}
use Rattle.answers.proofs.Finds.{lowest_from_find}
use Rattle.node.specs.Ordering.{is_placed}
use Rattle.node.proofs.ordering.lowest_unplaced.Goals as goal

pub returns : goal.returns
returns c = lowest_from_find (is_placed c.args.placed.now) _ c.find.ensures.ran (λ k l. absurd (omega arith)) (λ x q k. search (rules, tests)) (λ x q k. search (rules, tests))
