-- `node::note_length` meets its contract: an accepted file has room for its records and trailer.
use mathlib.Core.Path.{sym, ◌∙◌, ap}
use native.Mathlib.Omega.{arith}
use Rattle.node.specs.Note.{note_length, note_of}
use Rattle.node.proofs.Notes.{accepted_room, note_is}
use Rattle.node.proofs.file_note.note_length.Goals as goal

pub overflow_mul-result : goal.overflow_mul-result
overflow_mul-result c = omega (arith, accepted_room _ (sym c.verdict.ensures ∙ c.in-Ok.is))

pub overflow_add-result : goal.overflow_add-result
overflow_add-result c = omega (arith, accepted_room _ (sym c.verdict.ensures ∙ c.in-Ok.is))

pub overflow_sub-result : goal.overflow_sub-result
overflow_sub-result c = omega (arith, accepted_room _ (sym c.verdict.ensures ∙ c.in-Ok.is))

pub returns-in-Ok : goal.returns-in-Ok
returns-in-Ok c = sym (note_is _ (sym c.verdict.ensures ∙ c.in-Ok.is))

pub returns-in-Err : goal.returns-in-Err
unfolding note_length
returns-in-Err c = sym (ap (note_of _) (sym c.verdict.ensures ∙ c.in-Err.is))
