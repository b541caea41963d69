-- `arithmetic::add_terms` meets its contract. The loop's invariant: the terms passed are added.
use mathlib.Core.Path.{◌≡◌}
use lib.ListN.{length}
use Rattle.constraints.specs.Layout.{constraint_at}
use Rattle.constraints.specs.Linear.{scaled, written}
use Rattle.arithmetic.specs.Sums.{add_form}
use Rattle.arithmetic.proofs.terms.add_terms.Given as goal

abbrev pub invariant-loop-j : goal.invariant-loop-j
invariant-loop-j l = (length l.sums ≡ length l.initial.sums) × (l.sums ≡ add_form l.initial.sums (scaled l.factor (written (constraint_at l.file l.at) l.j)))
