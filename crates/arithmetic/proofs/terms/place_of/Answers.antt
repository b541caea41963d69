-- `arithmetic::place_of` meets its contract: the literal is on a constraint, which stands within the file.
use mathlib.Core.Path.{◌∙◌, ap}
use borrow.Author.Tests.{leb-true}
use Rattle.literals.specs.Literals.{atom_of}
use Rattle.arithmetic.proofs.terms.place_of.Goals as goal

pub overflow_sub-atom : goal.overflow_sub-atom
overflow_sub-atom c =
    rw (c.atom.ensures ∙ ap atom_of c.literal_at-literal.ensures)
    (leb-true 576 _ c.requires.constraint)
