-- `check_ranges::listing` meets its contract: the numbers that are counted are the table.
use mathlib.Core.Path.{sym, ◌∙◌, ap}
use mathlib.Core.Bool.{Bool, true, false, cond}
use mathlib.Core.List.{List}
use Prim.Native.Nat.{ℕ, ◌/◌, ◌%◌, ◌≤◌}
use native.Mathlib.Omega.{arith}
use lib.Dec.{eqb, ltb}
use lib.ListN.{length}
use lib.Seq.{length-take-le}
use Rattle.numbers.proofs.Capped.{capped}
use Rattle.numbers.proofs.Rows.{numbers_length, numbers_taken}
use Rattle.ranges.specs.Listing.{listing_of}
use Rattle.check_ranges.specs.Table.{size_of}
use Rattle.check_ranges.proofs.listing.Goals as goal

-- at most as many as the array holds
size_most : (bytes : List ℕ) → size_of bytes ≤ 129
unfolding size_of
size_most bytes = go (eqb (length bytes % 8) 0)
  where
    go : (x : Bool) → cond x (cond (ltb (length bytes / 8) 129) (length bytes / 8) 129) 0 ≤ 129
    go true = rw (← capped (length bytes / 8) 129) (omega arith)
    go false = omega arith

pub slice_bounds-table-end : goal.slice_bounds-table-end
slice_bounds-table-end c = rw (c.read_numbers.ensures, numbers_length, c.size_of.ensures) (size_most _)

pub slice_bounds-listed-end : goal.slice_bounds-listed-end
slice_bounds-listed-end c = sym (length-take-le _ _ (rw (c.read_numbers.ensures, numbers_length, c.size_of.ensures) (size_most _)))

pub returns : goal.returns
returns c =
    c.listed.ensures
    ∙ ap (listing_of c.args.node.now) (rw (c.read_numbers.ensures, c.size_of.ensures) (numbers_taken _ _ 129 0 (size_most _)))
