-- "A listed node comes with a table of two ends a stream, both 0 for a bool. It has a range within ±4,000,000,000 for each int
-- stream".
use Rattle.std.specs.Prelude.{ℕ, ◌+◌, ◌*◌, ◌≤◌, List, Bool, ◌&&◌, ℤ, pos, neg_ℤ, nat_abs, ◌≤ℤ◌}
use Rattle.std.specs.Int.Signed.{le_z}
use Rattle.node.specs.declared.equation.StreamType.{StreamType}
use Rattle.node.specs.declared.equation.StreamType.TheVariants.{Bool as BoolType, Int as IntType}
use Rattle.streams.specs.Values.{equals, values_in}
use Rattle.ranges.specs.declared.table.Range.{Range}

abbrev pub range : (least greatest : ℤ) → Range
range least greatest = record { least = least; greatest = greatest }

-- the range of stream i: the table has least and greatest of stream 0, of stream 1, and on
abbrev pub range_in : (table : List ℤ) → (i : ℕ) → Range
range_in table i = range (values_in table (2 * i)) (values_in table (2 * i + 1))

-- a number "in its range"
pub record In (r : Range) (z : ℤ) : Type 0 where
  pub above : r.least ≤ℤ z
  pub below : z ≤ℤ r.greatest

-- 71: "ends reversed, too large or, for a bool, not 0"
unfoldable pub range_ok : StreamType → Range → Bool
range_ok BoolType r = equals r.least (pos 0) && equals r.greatest (pos 0)
range_ok IntType r =
    le_z (neg_ℤ (pos 4000000000)) r.least && le_z r.least r.greatest && le_z r.greatest (pos 4000000000)

-- what 71 leaves of every range, past the table's end too: ends "within ±4,000,000,000"
pub record SmallEnds (r : Range) : Type 0 where
  pub least : nat_abs r.least ≤ 4000000000
  pub greatest : nat_abs r.greatest ≤ 4000000000

abbrev pub AllSmall : (table : List ℤ) → Type 0
AllSmall table = (i : ℕ) → SmallEnds (range_in table i)
