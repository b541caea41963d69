-- `streams::first_bad` meets its contract. The loop's invariant: the inputs of the records passed fit, and are counted.
use mathlib.Core.Path.{◌≡◌}
use mathlib.Core.Bool.{true}
use Prim.Native.Nat.{ℕ, ◌<◌}
use Rattle.node.specs.Inputs.{inputs_below}
use Rattle.node.specs.Layout.{records_of}
use Rattle.streams.specs.Instant.{input_fits}
use Rattle.streams.proofs.inputs.first_bad.Given as goal

abbrev pub invariant-loop-i : goal.invariant-loop-i
invariant-loop-i l = (l.n ≡ records_of l.file) × (l.j ≡ inputs_below l.file l.i) × ((k : ℕ) → k < l.i → input_fits l.file l.inputs k ≡ true)
