-- `ranges::Ranged::first_outside` meets its contract: `find` gives the stream that `lowest` does.
use native.Mathlib.Omega.{arith}
use Rattle.std.proofs.Common.{rules, tests}
use Rattle.answers.proofs.Finds.{lowest_from_find}
use Rattle.ranges.specs.Listing.{results_ok}
use Rattle.ranges.proofs.listing.Ranged.first_outside.Goals as goal

pub returns : goal.returns
returns c =
    let own = c.args.self.now in
    lowest_from_find (results_ok own.file.now own.table.now) _ c.find.ensures.ran (λ k l. absurd (omega arith)) (λ x q k. search (rules, tests)) (λ x q k. search (rules, tests))
