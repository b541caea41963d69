-- `streams::of_bool` meets its contract, for each of the two.
use mathlib.Core.Path.{◌≡◌}
use mathlib.Core.Bool.{Bool, true, false}
use lib.IntN.{ℤ, pos}
use mir.Val.{bool_byte}
use Rattle.integers.specs.Range.{checked_of, inside}
use Rattle.integers.proofs.Reading.{rd}
use Rattle.streams.specs.Values.{number}
use Rattle.streams.proofs.operators.of_bool.Goals as goal
use Rattle.std.specs.Prelude.{Some}
use mir.Syntax.{w64}

of_each : (b : Bool) (z : ℤ) → z ≡ pos (bool_byte b) → Some (rd w64 z) ≡ checked_of (number b)
unfolding checked_of inside
of_each true z e = rw e
of_each false z e = rw e

pub returns : goal.returns
returns c = of_each c.args.b _ c.from.ensures
