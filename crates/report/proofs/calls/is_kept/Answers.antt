-- `report::is_kept` meets its contract: what `all` answers, value by value.
use mathlib.Core.Path.{◌∙◌}
use Rattle.std.proofs.Common.{rules, tests}
use Rattle.std.proofs.lemmas.Iterator.{YieldsList-from_slice}
use Rattle.std.proofs.lemmas.Iterator.Search.{all_from_yields_List}
use Rattle.report.specs.Call.{is_seven}
use Rattle.report.proofs.Values.{kept_is}
use Rattle.report.proofs.calls.is_kept.Goals as goal

pub returns : goal.returns
returns c =
    all_from_yields_List is_seven _ _ _ c.all.ensures.ran (YieldsList-from_slice c.args.slice.now (search rules)) (λ x b q k. search (rules, tests))
    ∙ kept_is c.args.slice.now
