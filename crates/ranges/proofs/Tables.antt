-- What an accepted table gives: ends within the limits, the tests of 71 and 72 stream by stream.
-- Assumes nothing.
use mathlib.Core.Path.{◌≡◌, refl, ap}
use mathlib.Core.Bool.{Bool, true, false, ◌&&◌}
use mathlib.Core.List.{List}
use Prim.Native.Nat.{ℕ, ◌+◌, ◌*◌, ◌≤◌}
use native.Mathlib.Omega.{arith}
use borrow.Author.Tests.{ltb-true, ltb-false}
use lib.Dec.{eqb, ltb}
use lib.IntN.{ℤ, pos, neg_ℤ, nat_abs}
use lib.ListN.{length, get_or-eq_default}
use lib.Signed.{le_z, ◌≤ℤ◌}
use Rattle.integers.proofs.Abs.{abs-≤}
use Rattle.integers.proofs.Order.{le_z_true, ≤ℤ-trans}
use Rattle.answers.specs.declared.NodeValues.{NodeValues}
use Rattle.answers.specs.Answer.{accepted}
use Rattle.answers.specs.Checks.{every}
use Rattle.answers.proofs.Every.{every_all}
use Rattle.answers.proofs.Tests.{both_true}
use Rattle.node.specs.declared.equation.StreamType.{StreamType}
use Rattle.node.specs.declared.equation.StreamType.TheVariants.{Bool as BoolType, Int as IntType}
use Rattle.node.specs.Equations.{type_at, equation_at}
use Rattle.node.specs.Layout.{streams_of}
use Rattle.node.specs.Verdict.{verdict_of}
use Rattle.node.proofs.Notes.{accepted_sizes}
use Rattle.node.proofs.Outcomes.{accepted_values}
use Rattle.streams.specs.Values.{equals, values_in}
use Rattle.streams.proofs.Numbers.{equals_true}
use Rattle.ranges.specs.declared.table.Range.{Range}
use Rattle.ranges.specs.Listing.{length_ok, ends_ok, results_ok}
use Rattle.ranges.specs.Results.{ends, all_inside}
use Rattle.ranges.specs.Table.{range_in, range_ok, SmallEnds, AllSmall}

-- 72 of a bool stream, and of an int one

module _ (file : List ℕ) (table : List ℤ) (i : ℕ) where
  pub bool_listed : type_at file i ≡ BoolType → results_ok file table i ≡ true
  unfolding results_ok
  bool_listed e = rw e

  pub int_listed : type_at file i ≡ IntType → results_ok file table i ≡ all_inside (range_in table i) (ends (equation_at file i) (range_in table))
  unfolding results_ok
  int_listed e = rw e

-- an accepted node's streams are those of its file, and no more than 64

module _ (file : List ℕ) {node : NodeValues} (e : verdict_of file ≡ accepted node) where
  pub listed_streams : node.streams ≡ streams_of file
  listed_streams = ap (λ (v : NodeValues). v.streams) (accepted_values file e)

  pub few_streams : node.streams ≤ 64
  few_streams = rw listed_streams (accepted_sizes file e).few

  -- 71's tests by the count that the reader gives
  module _ (table : List ℤ) where
    pub length_test : eqb (length table) (2 * node.streams) ≡ length_ok file table
    length_test = ap (λ (n : ℕ). eqb (length table) (2 * n)) listed_streams

    pub ends_test : every (ends_ok file table) node.streams ≡ every (ends_ok file table) (streams_of file)
    ends_test = ap (every (ends_ok file table)) listed_streams

-- ends that 71 passes

nought_small : {z : ℤ} → z ≡ pos 0 → nat_abs z ≤ 4000000000
nought_small e = rw e (omega arith)

pub record WithinLimits (r : Range) : Type 0 where
  pub low : neg_ℤ (pos 4000000000) ≤ℤ r.least
  pub ordered : r.least ≤ℤ r.greatest
  pub high : r.greatest ≤ℤ pos 4000000000

pub int_ends : (r : Range) → range_ok IntType r ≡ true → WithinLimits r
unfolding range_ok
int_ends r e =
    let low = le_z (neg_ℤ (pos 4000000000)) r.least in
    let ordered = le_z r.least r.greatest in
    let high = le_z r.greatest (pos 4000000000) in
    let two = both_true (low && ordered) high e in
    let one = both_true low ordered two.0 in
    record { low = (le_z_true _ _).0 one.0; ordered = (le_z_true _ _).0 one.1; high = (le_z_true _ _).0 two.1 }

pub ok_small : (ty : StreamType) (r : Range) → range_ok ty r ≡ true → SmallEnds r
unfolding range_ok
ok_small BoolType r e =
    let noughts = both_true (equals r.least (pos 0)) (equals r.greatest (pos 0)) e in
    record { least = nought_small ((equals_true _ _).0 noughts.0); greatest = nought_small ((equals_true _ _).0 noughts.1) }
ok_small IntType r e =
    let o = int_ends r e in
    record {
      least = (abs-≤ 4000000000 r.least).1 (o.low, ≤ℤ-trans _ _ _ o.ordered o.high);
      greatest = (abs-≤ 4000000000 r.greatest).1 (≤ℤ-trans _ _ _ o.low o.ordered, o.high);
    }

-- past the table's end both ends are 0

past_small : (table : List ℤ) (i : ℕ) → length table ≤ i → nat_abs (values_in table i) ≤ 4000000000
past_small table i l = nought_small (get_or-eq_default table (pos 0) l)

module _ (file : List ℕ) (table : List ℤ) (n : ℕ) (size : length table ≡ 2 * n) (ok : every (ends_ok file table) n ≡ true) where
  pub all_small : AllSmall table
  all_small i = by (ltb i n) refl
    where
      by : (b : Bool) → ltb i n ≡ b → SmallEnds (range_in table i)
      by true e = ok_small (type_at file i) (range_in table i) (every_all (ends_ok file table) n ok i (ltb-true i n e))
      by false e =
          let l = ltb-false i n e in
          record { least = past_small table (2 * i) (omega (arith, size)); greatest = past_small table (2 * i + 1) (omega (arith, size)) }
