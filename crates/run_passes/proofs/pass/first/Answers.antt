-- `run_passes::pass::first` meets its contract: no event, one cut off, or a whole one.
use mathlib.Core.Path.{ap}
use Prim.Native.Nat.{ℕ, ◌+◌, ◌*◌}
use Rattle.run_passes.proofs.PassEvents.{size_none, first_split}
use Rattle.run_passes.proofs.pass.first.Goals as goal

pub returns-then-events-lt6 : goal.returns-then-events-lt6
returns-then-events-lt6 c = size_none _ c.if-events-lt6.true

pub returns : goal.returns
returns c = first_split _ _ _ _ _ c.if-events-lt6.false (ap (λ (n : ℕ). 6 + 8 * n) c.read_at.ensures) c.split_at_checked.ensures.cases
