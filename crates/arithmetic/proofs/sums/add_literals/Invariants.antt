-- `arithmetic::add_literals` meets its contract. The loop's invariant: the literals passed are added.
use mathlib.Core.Path.{◌≡◌}
use Rattle.constraints.specs.Layout.{line_at, constraints_from}
use Rattle.arithmetic.specs.Sums.{sums_of}
use Rattle.arithmetic.proofs.sums.add_literals.Given as goal

abbrev pub invariant-loop-j : goal.invariant-loop-j
invariant-loop-j l = (l.sums ≡ sums_of (constraints_from l.file l.start) (line_at l.file l.at) l.j)
