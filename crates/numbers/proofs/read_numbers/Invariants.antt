-- `numbers::read_numbers` meets its contract. The loop's invariant: the numbers passed are there, in a slice of the same length.
use mathlib.Core.Path.{◌≡◌}
use Prim.Native.Nat.{ℕ, ◌<◌}
use lib.IntN.{pos}
use lib.ListN.{length, get_or}
use Rattle.numbers.specs.Numbers.{number_at}
use Rattle.numbers.proofs.read_numbers.Given as goal

abbrev pub invariant-loop-i : goal.invariant-loop-i
invariant-loop-i l = (length l.out ≡ length l.initial.out) × ((x : ℕ) → x < l.i → get_or l.out x (pos 0) ≡ number_at l.bytes x)
