-- `node::note` meets its contract: the note is no longer than the file.
use mathlib.Core.Path.{sym}
use lib.Seq.{length-take-le}
use Rattle.node.proofs.Notes.{note_fits}
use Rattle.node.proofs.file_note.note.Goals as goal

pub slice_bounds-result-end : goal.slice_bounds-result-end
slice_bounds-result-end c = sym (length-take-le _ _ (rw c.before.note_length-n.ensures (note_fits _)))
