-- `certificate::next_lines` meets its contract. The loop's invariant: each line passed breaks no rule, and the sums are zero.
use mathlib.Core.Path.{◌≡◌}
use mathlib.Core.Bool.{true}
use Prim.Native.Nat.{ℕ, ◌-◌, ◌<◌, ◌≤◌}
use lib.IntN.{pos}
use lib.ListN.{replicate}
use Rattle.rules.specs.Verdict.{line_passes}
use Rattle.rules.specs.Versions.{version2}
use Rattle.certificate.proofs.checker.next_lines.Given as goal

abbrev pub invariant-loop-i : goal.invariant-loop-i
invariant-loop-i l = (l.line ≤ l.i) × ((k : ℕ) → l.line ≤ k → k < l.i → line_passes version2 l.node l.cert k ≡ true) × (l.sums ≡ replicate 576 (pos 0))
