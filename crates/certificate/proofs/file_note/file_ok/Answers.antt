-- `certificate::file_ok` meets its contract: a wrong length, or the three tests of the trailer.
use mathlib.Core.Path.{sym, ◌∙◌}
use Rattle.node.proofs.FileRules.{long_enough}
use Rattle.rules.specs.Note.{file_ok}
use Rattle.certificate.proofs.file_note.file_ok.Goals as goal

pub returns-then-not-length_ok : goal.returns-then-not-length_ok
unfolding file_ok
returns-then-not-length_ok c = rw (sym c.length_ok.ensures ∙ c.if-not-length_ok.true)

pub trailer_of-t-requires : goal.trailer_of-t-requires
trailer_of-t-requires c = long_enough _ (sym c.length_ok.ensures ∙ c.if-not-length_ok.false)

pub returns : goal.returns
unfolding file_ok
returns c =
    rw (
      sym c.length_ok.ensures ∙ c.if-not-length_ok.false,
      c.distance_ok.ensures,
      c.counts_ok.ensures,
      c.fixed_ok.ensures,
      c.trailer_of-t.ensures,
    )
