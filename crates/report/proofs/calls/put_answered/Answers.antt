-- `report::put_answered` meets its contract.
use borrow.Author.Rules.{rules}
use Rattle.report.proofs.Texts.{then}
use Rattle.report.proofs.calls.put_answered.Goals as goal

pub returns : goal.returns
returns c =
    let values = c.put_values-past_values.ensures in
    let word = c.put-past_word.ensures in
    (then (then word values.0) c.put.ensures, search rules)
