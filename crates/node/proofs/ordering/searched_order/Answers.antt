-- `node::searched_order` meets its contract. The loop's invariant: the arrays hold the order after k turns, and no record below the
-- search's start is ready.
use mathlib.Core.Path.{◌≡◌, sym, ◌∙◌, ap}
use native.Mathlib.Nat.{not-suc-le-zero}
use native.Mathlib.Omega.{arith}
use mathlib.Core.List.{List}
use Prim.Native.Nat.{ℕ}
use lib.ListN.{take}
use Rattle.std.specs.Prelude.{Option, None, Result, Ok, Err, IfOk}
use Rattle.std.specs.Result.{result_err}
use Rattle.node.specs.Order.{order_after}
use Rattle.node.specs.Reads.{needs_of}
use Rattle.node.proofs.Placing.{rests}
use Rattle.node.proofs.Searching.{searching_start, next_is, next_below, searching_more, unplaced_is, streams_taken}
use Rattle.node.proofs.Starting.{start_moves, none_below}
use Rattle.node.proofs.ordering.searched_order.Goals as goal

-- an order that has all is the one that was worked out
all_taken : (streams : List ℕ) {worked : List ℕ} {unplaced : Option ℕ} (n : ℕ) (order : Result (List ℕ) ℕ) → IfOk order (λ o. o ≡ streams) → result_err order ≡ unplaced → (unplaced ≡ None → take n streams ≡ worked) → IfOk order (λ o. take n o ≡ worked)
all_taken streams n (Ok o) same is taken = ap (take n) same ∙ taken (sym is)
all_taken streams n (Err i) same is taken = tt

pub loop-k-init : goal.loop-k-init
loop-k-init c = (searching_start _ _, λ k l. absurd (not-suc-le-zero l))

pub returns-in_default : goal.returns-in_default
returns-in_default c =
    let inv = c.loop-k.invariant.0 in
    let found = sym (next_is _ _ _ _ _ inv c.needs_of_all-needs.result c.requires.1 c.requires.2 c.requires.3 c.needs_of_all-needs.ensures) ∙ sym c.lowest_ready.ensures.found in
    let ends = rests (needs_of c.args.file.now) c.args.n c.loop-k.k c.args.n (found ∙ c.in_default.is) inv.within in
    let placed = c.all_placed.ensures in
    let unplaced = placed.unplaced_value ∙ unplaced_is _ _ _ _ _ inv c.requires.1 ends in
    record { unplaced_value = unplaced; streams_value = all_taken _ _ _ placed.streams_value unplaced (streams_taken _ _ _ _ _ inv c.requires.1 ends) }

pub loop-k-preserved : goal.loop-k-preserved
loop-k-preserved c =
    let inv = c.loop-k.invariant in
    let needs-made = c.needs_of_all-needs.result in
    let found = sym (next_is _ _ _ _ _ inv.0 needs-made c.requires.1 c.requires.2 c.requires.3 c.needs_of_all-needs.ensures) ∙ sym c.lowest_ready.ensures.found ∙ c.in-Some.is in
    let below = next_below _ _ _ _ _ inv.0 _ c.requires.1 c.loop-k-test.true found in
    let none = none_below c.loop-k.placed needs-made c.args.n _ (sym c.lowest_ready.ensures.found ∙ c.in-Some.is) in (
      searching_more _ _ _ _ _ inv.0 _ c.requires.1 c.loop-k-test.true found,
      rw c.next_start-start.ensures
          (start_moves c.loop-k.placed needs-made _ c.readers_of-readers.result c.args.n c.readers_of-readers.ensures (omega (arith, inv.0.flagging.size, below, c.requires.1)) below none),
    )

pub returns : goal.returns
returns c =
    let inv = c.loop-k.invariant.0 in
    let k-is : c.args.n ≡ c.loop-k.k = omega (arith, inv.within) in
    let ends = ap (order_after (needs_of c.args.file.now) c.args.n) k-is in
    let placed = c.all_placed-2.ensures in
    let unplaced = placed.unplaced_value ∙ unplaced_is _ _ _ _ _ inv c.requires.1 ends in
    record { unplaced_value = unplaced; streams_value = all_taken _ _ _ placed.streams_value unplaced (streams_taken _ _ _ _ _ inv c.requires.1 ends) }
