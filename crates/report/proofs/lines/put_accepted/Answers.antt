-- `report::put_accepted` meets its contract.
use borrow.Author.Rules.{rules}
use Rattle.report.proofs.Texts.{then}
use Rattle.report.proofs.lines.put_accepted.Goals as goal

pub returns : goal.returns
returns c =
    let depth = c.put_field-past_depth.ensures in
    let base = c.put_field-past_base.ensures in
    let step = c.put_field-past_step.ensures in
    (then (then (then depth.0 base.0) step.0) c.put.ensures, search rules)
