-- Orders of evaluation: each operand that is needed now stands before its record. What follows from the rows rests on a rank of
-- each stream alone; in the worked-out order it is the stream's place.
-- Assumes nothing.
use mathlib.Core.Path.{◌≡◌}
use mathlib.Core.Bool.{true}
use mathlib.Core.List.{List}
use Prim.Native.Nat.{ℕ, ◌<◌}
use native.Mathlib.Omega.{arith}
use lib.ListN.{length, get_or}
use Rattle.node.specs.Order.{place_in}
use Rattle.node.specs.Reads.{Read, reads, All, ReadOk}
use Rattle.streams.specs.Nodes.{Node, WellFormedNode, node_order}
use Rattle.streams.proofs.Reading.{all_map₂}

-- an operand of stream s: a stream, and settled before s where it is needed now
pub record Settled (n : ℕ) (rank : ℕ → ℕ) (s : ℕ) (r : Read) : Type 0 where
  pub below : r.stream < n
  pub lower : r.now ≡ true → rank r.stream < rank s

abbrev pub Ranked : Node → (rank : ℕ → ℕ) → Type 0
Ranked node rank = (s : ℕ) → s < node.streams → All (Settled node.streams rank s) (reads (node.equations s))

-- the order names every stream once, at its rank
pub record Order (node : Node) (rank : ℕ → ℕ) (order : List ℕ) : Type 0 where
  pub ranked : Ranked node rank
  pub within : (s : ℕ) → s < node.streams → rank s < length order
  pub at_rank : (s : ℕ) → s < node.streams → get_or order (rank s) 0 ≡ s
  pub names : (k : ℕ) → k < length order → get_or order k 0 < node.streams
  pub rank_at : (k : ℕ) → k < length order → rank (get_or order k 0) ≡ k

-- ---- the worked-out order

-- a stream's place in it
abbrev pub place_of : Node → (s : ℕ) → ℕ
place_of node = place_in (node_order node)

pub ranked_by_place : (node : Node) → WellFormedNode node → Ranked node (place_of node)
ranked_by_place node wf s l =
    all_map₂ {P = ReadOk node.streams node.types s} {Q = λ r. r.now ≡ true → place_of node r.stream < place_of node s} {R = Settled node.streams (place_of node) s}
    (λ r ok after. record { below = ok.below; lower = after })
    (reads (node.equations s)) (wf.operands s l) (wf.ordered.after s l)

pub worked_out_order_is : (node : Node) → WellFormedNode node → Order node (place_of node) (node_order node)
worked_out_order_is node wf =
    let ordered = wf.ordered in
    record {
      ranked = ranked_by_place node wf;
      within = λ s l. omega (arith, ordered.size, ordered.has s l);
      at_rank = ordered.at_place_is;
      names = λ k l. ordered.names k (omega (arith, ordered.size));
      rank_at = λ k l. ordered.once k (omega (arith, ordered.size));
    }
