-- `lines::are_unused` meets its contract. The loop's invariant: the tests of those passed, put together.
use mathlib.Core.Path.{◌≡◌}
use Rattle.answers.specs.Checks.{every}
use Rattle.constraints.specs.Layout.{literal_at, multiplier_at}
use Rattle.lines.specs.Slots.{unused_ok}
use Rattle.lines.proofs.shape.are_unused.Given as goal

abbrev pub invariant-loop-j : goal.invariant-loop-j
invariant-loop-j l = (l.clear ≡ every (unused_ok l.count (literal_at l.file l.at) (multiplier_at l.file l.at)) l.j)
