-- `session::step` meets its contract: an answered call moves the record on, a refused one leaves it.
use mathlib.Core.Path.{sym, ◌∙◌}
use Rattle.session.proofs.Answering.{moves, refused_keeps}
use Rattle.session.proofs.making.step.Goals as goal

pub returns-in-Ok : goal.returns-in-Ok
returns-in-Ok c =
    let a = c.args in
    let said = c.in-Ok.ensures in
    (said.0, c.moved_to.ensures ∙ moves a.s a.inputs.now a.out.now _ (sym said.0) said.1, said.2)

pub returns-in-Err : goal.returns-in-Err
returns-in-Err c =
    let a = c.args in
    let said = c.in-Err.ensures in
    (said.0, sym (refused_keeps a.s a.inputs.now a.out.now (sym said.0)).1, said.2)
