-- `node::lowest_ready` meets its contract: `find` from the start finds the lowest record that is ready, as none before it is.
use Rattle.std.proofs.Common.{rules, tests, ap, not}
use Rattle.answers.proofs.Finds.{lowest_from_find}
use Rattle.node.specs.Ordering.{ready_by}
use Rattle.node.proofs.ordering.lowest_ready.Goals as goal

pub returns-clause-found : goal.returns-clause-found
returns-clause-found c = lowest_from_find (λ i. not (ready_by c.args.placed.now c.args.needs.now i)) _ c.find.ensures.ran (λ k l. ap not (c.requires.1 k l)) (λ x q k. search (rules, tests)) (λ x q k. search (rules, tests))
