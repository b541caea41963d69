-- `report::put_refusal` meets its contract.
use borrow.Author.Rules.{rules}
use Rattle.report.proofs.Texts.{then}
use Rattle.report.proofs.lines.put_refusal.Goals as goal

pub returns : goal.returns
returns c = (then c.put_field-past_number.ensures.0 c.put_place.ensures.0, search rules)
