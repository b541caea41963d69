-- What std's methods promise, as this crate's contracts say it. `src/lib.rt` names `promises`, so that only `multiple` needs answers.
use mathlib.Core.Path.{◌≡◌, refl, sym, ap, ◌∙◌}
use mathlib.Core.Bool.{Bool, true, false, cond}
use native.Mathlib.Omega.{arith}
use lib.IntN.{ℤ}
use lib.Signed.{le_z, lt_z}
use mir.Syntax.{w64}
use mir.Val.{SFits}
use Rattle.std.specs.Prelude.{Option, Some, None, SomeIff}
use Rattle.std.specs.Int.{int_min, int_max}
use Rattle.std.proofs.lemmas.Int.{ints}
use Rattle.integers.specs.Range.{checked_of, lesser, greater}
use Rattle.integers.proofs.Within.{within, outside}

-- `checked_add` and `checked_sub`, and the two that take a number without a sign
pub checked : (r : Option ℤ) (z : ℤ) → SomeIff r (SFits w64 z) z → r ≡ checked_of z
checked None z n = sym (outside z n)
checked (Some x) z h = ap Some h.1 ∙ sym (within z h.0)

-- `min` and `max`, which ask whether b < a, where `lesser` and `greater` ask whether a ≤ b
tests : {X : Type 0} (a b : ℤ) (x y : X) → cond (lt_z b a) x y ≡ cond (le_z a b) y x
tests a b x y = go (lt_z b a) (le_z a b) refl refl
  where
    go : (s t : Bool) → lt_z b a ≡ s → le_z a b ≡ t → cond s x y ≡ cond t y x
    go true true e f = absurd (omega (arith, ints))
    go true false e f = refl
    go false true e f = refl
    go false false e f = absurd (omega (arith, ints))

pub int_min_lesser : (a b : ℤ) → int_min a b ≡ lesser a b
unfolding lesser
int_min_lesser a b = tests a b b a

pub int_max_greater : (a b : ℤ) → int_max a b ≡ greater a b
unfolding greater
int_max_greater a b = tests a b a b

pub ruleset promises = (checked, int_min_lesser, int_max_greater)
