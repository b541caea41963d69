-- `report::put_refused` meets its contract.
use borrow.Author.Rules.{rules}
use Rattle.report.proofs.Texts.{then}
use Rattle.report.proofs.lines.put_refused.Goals as goal

pub returns : goal.returns
returns c = (then c.put_refusal-past.ensures.0 c.put.ensures, search rules)
