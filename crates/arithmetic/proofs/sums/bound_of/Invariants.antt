-- `arithmetic::bound_of` meets its contract. The loop's invariant: the bounds of the literals passed are added.
use mathlib.Core.Path.{◌≡◌}
use Rattle.constraints.specs.Layout.{line_at, constraints_from}
use Rattle.rules.specs.Arithmetic.{sum_of}
use Rattle.arithmetic.proofs.sums.bound_of.Given as goal

abbrev pub invariant-loop-j : goal.invariant-loop-j
invariant-loop-j l = (l.bound ≡ (sum_of (constraints_from l.file l.start) (line_at l.file l.at) l.j).bound)
