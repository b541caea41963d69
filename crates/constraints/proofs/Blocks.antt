-- The used terms and the listed literals are as many as the count says, where it is within the block.
-- Assumes nothing.
use mathlib.Core.Path.{◌≡◌}
use Prim.Native.Nat.{ℕ, ◌≤◌, ◌<◌}
use native.Mathlib.Nat.{min-eq_left, min-le_left, min-le_right, le-min}
use Rattle.constraints.specs.Layout.{Constraint, Line, used_in, listed_in}

pub listed_few : (line : Line) → listed_in line ≤ 12
unfolding listed_in
listed_few line = min-le_right line.head.count 12

pub listed_is : (line : Line) → line.head.count ≤ 12 → listed_in line ≡ line.head.count
unfolding listed_in
listed_is line l = min-eq_left l

pub listed_within : (line : Line) → listed_in line ≤ line.head.count
unfolding listed_in
listed_within line = min-le_left line.head.count 12

pub is_listed_is : (line : Line) (j : ℕ) → j < line.head.count → j < 12 → j < listed_in line
unfolding listed_in
is_listed_is line j l few = le-min l few

pub used_is : (c : Constraint) → c.head.count ≤ 8 → used_in c ≡ c.head.count
unfolding used_in
used_is c l = min-eq_left l

pub used_few : (c : Constraint) → used_in c ≤ 8
unfolding used_in
used_few c = min-le_right c.head.count 8
