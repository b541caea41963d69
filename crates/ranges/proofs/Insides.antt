-- One range, or two, inside another; an operator whose results have no range. `results_inside` names the ruleset.
-- Assumes nothing.
use mathlib.Core.Path.{◌≡◌, refl}
use mathlib.Core.List.{[], ◌∷◌}
use mathlib.Core.Bool.{true, ◌&&◌, and-true}
use Rattle.ranges.specs.declared.table.Range.{Range}
use Rattle.ranges.specs.Results.{is_inside, all_inside}

pub none_inside : (own : Range) → all_inside own [] ≡ true
unfolding all_inside
none_inside own = refl

pub one_inside : (own r : Range) → all_inside own (r ∷ []) ≡ is_inside own r
unfolding all_inside
one_inside own r = rw and-true

pub two_inside : (own a b : Range) → all_inside own (a ∷ b ∷ []) ≡ (is_inside own a && is_inside own b)
unfolding all_inside
two_inside own a b = rw and-true

pub ruleset insides = (none_inside, one_inside, two_inside)
