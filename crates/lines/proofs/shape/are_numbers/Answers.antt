-- `lines::are_numbers` meets its contract: the tests in a row.
use Rattle.rules.specs.Lines.{numbers_ok}
use Rattle.lines.proofs.shape.are_numbers.Goals as goal

pub returns : goal.returns
unfolding numbers_ok
returns c = cc
