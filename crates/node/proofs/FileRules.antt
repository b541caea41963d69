-- What the rules of the file, 1 to 4, say in numbers.
-- Assumes nothing.
use mathlib.Core.Path.{◌≡◌}
use mathlib.Core.Bool.{true, ◌&&◌}
use mathlib.Core.List.{List}
use Prim.Native.Nat.{ℕ, ◌<◌, ◌≤◌}
use borrow.Author.Tests.{leb-true, ltb-true, eqb-true, le-leb}
use lib.Dec.{leb, ltb, eqb}
use lib.ListN.{length}
use Rattle.answers.proofs.Tests.{both_true}
use Rattle.node.specs.Layout.{trailer_of, streams_of, property_of, size_of, records_of}
use Rattle.node.specs.Rules.{length_ok, counts_ok, distance_ok}
use Rattle.node.specs.Outcome.{FileRules}

pub long_enough : (size : ℕ) → length_ok size ≡ true → 16 ≤ size
unfolding length_ok
long_enough size e = leb-true _ _ (both_true _ (leb size 65535) e).0

short_enough : (size : ℕ) → length_ok size ≡ true → size ≤ 65535
unfolding length_ok
short_enough size e = leb-true _ _ (both_true (leb 16 size) _ e).1

-- the sizes of a file that keeps rules 1 to 4
pub record Sizes (s : List ℕ) : Type 0 where
  pub least : 16 ≤ length s
  pub most : length s ≤ 65535
  pub some : 1 ≤ streams_of s
  pub few : streams_of s ≤ 64
  pub property : property_of s < streams_of s
  pub distance : (trailer_of s).distance ≡ size_of (streams_of s)
  pub room : size_of (streams_of s) ≤ length s
  pub records : records_of s ≡ streams_of s

pub sizes : (s : List ℕ) → FileRules s → Sizes s
unfolding counts_ok distance_ok records_of
sizes s f =
    let t = trailer_of s in
    let n = both_true (leb 1 t.streams && leb t.streams 64) (ltb t.property t.streams) f.counts in
    let d = both_true (eqb t.distance (size_of t.streams)) (leb t.distance (length s)) f.distance in
    let least : 16 ≤ length s = long_enough _ f.size in
    let distance : t.distance ≡ size_of t.streams = eqb-true _ _ d.0 in
    let room : size_of t.streams ≤ length s = rw distance at (leb-true t.distance (length s) d.1) in
    record {
      least = least;
      most = short_enough _ f.size;
      some = leb-true _ _ (both_true (leb 1 t.streams) (leb t.streams 64) n.0).0;
      few = leb-true _ _ (both_true (leb 1 t.streams) (leb t.streams 64) n.0).1;
      property = ltb-true _ _ n.1;
      distance = distance;
      room = room;
      records = rw (le-leb _ _ least, le-leb _ _ room);
    }
