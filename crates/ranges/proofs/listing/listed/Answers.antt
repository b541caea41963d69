-- `ranges::listed` meets its contract: the node's own refusals, then those of its table.
use mathlib.Core.Path.{sym, ◌∙◌}
use Rattle.answers.proofs.Checks.{handed_on}
use Rattle.ranges.specs.Listing.{listing_of}
use Rattle.ranges.proofs.listing.listed.Goals as goal

pub returns-in_err-verdict : goal.returns-in_err-verdict
unfolding listing_of
returns-in_err-verdict c = handed_on _ c.from_residual.ensures ∙ rw (sym c.verdict.ensures ∙ c.in_err-verdict.was)

pub returns : goal.returns
unfolding listing_of
returns c = c.listed_on.ensures ∙ rw (sym c.verdict.ensures ∙ c.in_ok-verdict.was)
