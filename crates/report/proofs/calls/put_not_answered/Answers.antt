-- `report::put_not_answered` meets its contract.
use borrow.Author.Rules.{rules}
use Rattle.report.proofs.Texts.{then}
use Rattle.report.proofs.calls.put_not_answered.Goals as goal

pub returns : goal.returns
returns c =
    (then c.put_refusal-past.ensures.0 c.put_kept.ensures.0, search rules)
