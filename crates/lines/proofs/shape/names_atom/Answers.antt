-- `lines::names_atom` meets its contract: the atom of a constraint, or of a bool stream.
use borrow.Author.Tests.{le-leb, lt-leb}
use Rattle.rules.specs.Literals.{names_atom}
use Rattle.lines.proofs.shape.names_atom.Goals as goal

pub returns-then-atom-ge576 : goal.returns-then-atom-ge576
unfolding names_atom
returns-then-atom-ge576 c = rw (le-leb _ _ c.if-atom-ge576.true)

pub returns : goal.returns
unfolding names_atom
returns c = rw (lt-leb _ _ c.if-atom-ge576.false, c.type_at-its_type.ensures)
