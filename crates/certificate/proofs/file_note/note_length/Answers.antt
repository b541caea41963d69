-- `certificate::note_length` meets its contract: what rules 11 to 14 let pass lies within the file.
use mathlib.Core.Path.{◌≡◌, sym, ◌∙◌}
use mathlib.Core.Bool.{true}
use Rattle.rules.specs.Note.{file_ok, note_length}
use Rattle.rules.specs.Versions.{version2}
use Rattle.rules.proofs.FileFacts.{file_facts}
use Rattle.certificate.proofs.file_note.note_length.Goals as goal

pub returns-then-not-file_ok : goal.returns-then-not-file_ok
unfolding note_length
returns-then-not-file_ok c = rw (sym c.file_ok.ensures ∙ c.if-not-file_ok.true)

pub trailer_of-requires : goal.trailer_of-requires
trailer_of-requires c =
    let passes : (file_ok version2 c.args.cert.now ≡ true) = sym c.file_ok.ensures ∙ c.if-not-file_ok.false in
    (file_facts version2 _ passes).least

pub start_of-requires : goal.start_of-requires
start_of-requires c =
    let passes : (file_ok version2 c.args.cert.now ≡ true) = sym c.file_ok.ensures ∙ c.if-not-file_ok.false in
    (c.trailer_of.ensures, (file_facts version2 _ passes).room)

pub returns : goal.returns
unfolding note_length
returns c =
    let passes : (file_ok version2 c.args.cert.now ≡ true) = sym c.file_ok.ensures ∙ c.if-not-file_ok.false in
    rw passes c.start_of.ensures
