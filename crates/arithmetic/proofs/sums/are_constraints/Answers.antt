-- `arithmetic::are_constraints` meets its contract: each literal is on a constraint.
use mathlib.Core.Path.{refl}
use Rattle.std.proofs.Common.{rules, tests}
use Rattle.answers.proofs.Ranges.{every_from_all}
use Rattle.constraints.specs.Layout.{literal_at}
use Rattle.literals.specs.Literals.{atom_of, is_constraint}
use Rattle.arithmetic.proofs.sums.are_constraints.Goals as goal

pub returns : goal.returns
returns c = every_from_all (λ j. is_constraint (atom_of (literal_at c.args.file.now c.args.at j))) c.args.count c.all.ensures.ran refl (λ x y q k. search (rules, tests))
