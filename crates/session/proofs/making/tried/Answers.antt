-- `session::tried` meets its contract: an answered trial is kept in the record, a refused one leaves it.
use mathlib.Core.Path.{sym, ◌∙◌}
use Rattle.session.proofs.Answering.{tries, refused_keeps}
use Rattle.session.proofs.making.tried.Goals as goal

pub returns-in-Ok : goal.returns-in-Ok
returns-in-Ok c =
    let a = c.args in
    let said = c.in-Ok.ensures in
    (said.0, c.with_trial.ensures ∙ tries a.s a.inputs.now a.out.now _ (sym said.0) said.1, said.2)

pub returns-in-Err : goal.returns-in-Err
returns-in-Err c =
    let a = c.args in
    let said = c.in-Err.ensures in
    (said.0, sym (refused_keeps a.s a.inputs.now a.out.now (sym said.0)).0, said.2)
