-- Numbers against their types, as the machine reads them.
-- Assumes nothing.
use mathlib.Core.Path.{◌≡◌, ◌∙◌, ap₂}
use mathlib.Core.Bool.{Bool}
use lib.IntN.{ℤ}
use mir.Syntax.{w64}
use mir.Val.{SFits}
use mir.Facts.{to_z-of_z}
use Rattle.integers.proofs.Reading.{rd}
use Rattle.node.specs.declared.equation.StreamType.{StreamType}
use Rattle.streams.specs.Typing.{fits_test}

-- the test of a type and a number that are those asked for is the test asked for
pub typed_is : (ty asked : StreamType) (x number : ℤ) {r : Bool} → SFits w64 x → ty ≡ asked → x ≡ number → r ≡ fits_test ty (rd w64 x) → r ≡ fits_test asked number
typed_is ty asked x number f k n e = e ∙ ap₂ fits_test k (to_z-of_z f ∙ n)
