-- `check_ranges::size_of` meets its contract.
use mathlib.Core.Path.{◌≡◌, ◌∙◌}
use Prim.Native.Nat.{◌%◌}
use native.Mathlib.Omega.{arith}
use lib.ListN.{length}
use borrow.Author.Tests.{eq-eqb, ne_eqb}
use Rattle.numbers.proofs.Capped.{capped}
use Rattle.check_ranges.specs.Table.{size_of}
use Rattle.check_ranges.proofs.size_of.Goals as goal

pub returns-then-bytes-ne0 : goal.returns-then-bytes-ne0
unfolding size_of
returns-then-bytes-ne0 c = rw (ne_eqb _ _ (λ (e : length c.args.bytes.now % 8 ≡ 0). omega arith))

pub returns : goal.returns
unfolding size_of
returns c =
    let whole : length c.args.bytes.now % 8 ≡ 0 = omega arith in
    rw (eq-eqb _ _ whole) (c.min.ensures ∙ capped _ 129)
