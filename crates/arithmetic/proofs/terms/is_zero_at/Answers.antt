-- `arithmetic::is_zero_at` meets its contract: a used term is one of eight, and its variable is in the array.
use native.Mathlib.Omega.{arith}
use Rattle.constraints.specs.Layout.{constraint_at}
use Rattle.constraints.proofs.Blocks.{used_few}
use Rattle.arithmetic.proofs.terms.is_zero_at.Goals as goal

pub variable_at-requires : goal.variable_at-requires
variable_at-requires c = (c.requires.summable.0.room, omega (arith, used_few (constraint_at c.args.file.now c.args.at)))
