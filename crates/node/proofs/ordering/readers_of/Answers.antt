-- `node::readers_of` meets its contract. The loop's invariant: the readers from record i on are there.
use mathlib.Core.Path.{◌≡◌, sym, subst}
use Prim.Native.Nat.{ℕ, ◌+◌, ◌-◌}
use native.Mathlib.Omega.{arith}
use Rattle.node.specs.Ordering.{HoldReaders}
use Rattle.node.proofs.Starting.{readers_more}
use Rattle.node.proofs.ordering.readers_of.Goals as goal

pub loop-i-preserved : goal.loop-i-preserved
loop-i-preserved c =
    let more : c.loop-i.i - 1 + 1 ≡ c.loop-i.i = omega (arith, c.loop-i-test.true) in
    readers_more c.args.needs.now c.loop-i.readers c.args.n (c.loop-i.i - 1) (subst (λ (m : ℕ). HoldReaders c.args.needs.now c.args.n m c.loop-i.readers) (sym more) c.loop-i.invariant)
