-- `certificate::note` meets its contract: the note is no longer than the file.
use mathlib.Core.Path.{sym}
use lib.Seq.{length-take-le}
use Rattle.rules.proofs.FileFacts.{note_fits}
use Rattle.rules.specs.Versions.{version2}
use Rattle.certificate.proofs.file_note.note.Goals as goal

pub slice_bounds-result-end : goal.slice_bounds-result-end
slice_bounds-result-end c = sym (length-take-le _ _ (rw c.note_length-n.ensures (note_fits version2 _)))

pub returns : goal.returns
returns c = rw c.note_length-n.ensures
