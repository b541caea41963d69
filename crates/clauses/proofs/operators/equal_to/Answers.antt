-- `clauses::equal_to` meets its contract: each number of the two constraints is read as it was written.
use mathlib.Core.Path.{◌∙◌, ap}
use Rattle.std.proofs.Common.{arith}
use Rattle.std.proofs.lemmas.Int.{ints}
use Rattle.std.specs.Prelude.{Some}
use Rattle.clauses.proofs.Numbering.{same_linear}
use Rattle.clauses.proofs.operators.equal_to.Goals as goal

pub returns-in-0 : goal.returns-in-0
returns-in-0 c = rw c.in-0.is (ap Some (c.one.ensures ∙ same_linear (omega (arith, ints)) (omega (arith, ints)) (omega (arith, ints))))

pub returns-in-1 : goal.returns-in-1
returns-in-1 c = rw c.in-1.is (ap Some (c.one-in-1.ensures ∙ same_linear (omega (arith, ints)) (omega (arith, ints)) (omega (arith, ints))))
