-- `arithmetic::variable_at` meets its contract: the fields of the term that was read.
use Rattle.arithmetic.proofs.terms.variable_at.Goals as goal

pub returns : goal.returns
returns c = cc
