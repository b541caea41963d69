-- `lines::is_listed` meets its contract: the tests in a row, of what was read.
use Rattle.lines.specs.Slots.{listed_ok}
use Rattle.lines.proofs.shape.is_listed.Goals as goal

pub returns : goal.returns
unfolding listed_ok
returns c =
    rw (
      c.multiplier_ok.ensures,
      c.names_atom.ensures,
      c.atom.ensures,
      c.literal_at-literal.ensures,
      c.multiplier_at-multiplier.ensures,
    )
