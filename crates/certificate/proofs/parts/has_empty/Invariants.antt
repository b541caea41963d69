-- `certificate::has_empty` meets its contract. The loop's invariant: each line from i on has literals.
use mathlib.Core.Path.{◌≡◌}
use mathlib.Core.Bool.{true}
use Prim.Native.Nat.{ℕ, ◌<◌, ◌≤◌}
use Rattle.rules.specs.Lines.{has_literals}
use Rattle.lines.specs.Frame.{lines_at}
use Rattle.certificate.proofs.parts.has_empty.Given as goal

abbrev pub invariant-loop-i : goal.invariant-loop-i
invariant-loop-i l = (l.i ≤ l.n) × ((k : ℕ) → l.i ≤ k → k < l.n → has_literals (lines_at l.file l.lines) l.from k ≡ true)
