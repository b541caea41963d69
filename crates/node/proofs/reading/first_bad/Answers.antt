-- `node::first_bad` meets its contract: `find` over the records finds the lowest that breaks the rule.
use Rattle.std.proofs.Common.{rules, tests, arith}
use Rattle.answers.proofs.Finds.{lowest_from_find}
use Rattle.node.specs.Verdict.{passes_of}
use Rattle.node.proofs.reading.first_bad.Goals as goal

pub returns : goal.returns
returns c = lowest_from_find (passes_of c.args.file.now c.args.n c.args.rule) _ c.find.ensures.ran (λ k l. absurd (omega arith)) (λ x q k. search (rules, tests)) (λ x q k. search (rules, tests))
