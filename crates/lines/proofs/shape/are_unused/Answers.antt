-- `lines::are_unused` meets its contract. The loop's invariant: the tests of those passed, put together.
use mathlib.Core.Path.{sym}
use native.Mathlib.Numerals.{add-one}
use Rattle.answers.specs.Checks.{every}
use Rattle.answers.proofs.Every.{every_none}
use Rattle.lines.specs.Slots.{unused_ok}
use Rattle.lines.proofs.shape.are_unused.Goals as goal

pub loop-j-init : goal.loop-j-init
loop-j-init c = sym (every_none _)

pub loop-j-preserved : goal.loop-j-preserved
unfolding every unused_ok
loop-j-preserved c = rw (add-one, c.loop-j.invariant, c.literal_at-literal.ensures, c.multiplier_at-multiplier.ensures)
