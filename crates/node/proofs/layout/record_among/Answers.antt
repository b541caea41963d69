-- `node::record_among` meets its contract. Where it reads, the records and the trailer lie within the file.
use mathlib.Core.Path.{◌≡◌, refl, sym, ◌∙◌, ap}
use mathlib.Core.Bool.{Bool, true, false, ◌&&◌}
use Prim.Native.Nat.{ℕ, ◌/◌}
use native.Mathlib.Omega.{arith}
use borrow.Author.Tests.{le-leb, lt-leb, ltb-true, ltb-false}
use lib.Dec.{leb, ltb}
use lib.ListN.{length}
use Rattle.node.specs.Layout.{record_among, size_of}
use borrow.Author.Rules.{rules}
use Rattle.node.proofs.layout.record_among.Goals as goal

-- n records and the trailer fit a file of as many whole sixteens
room_is : (n size : ℕ) → ltb n (size / 16) ≡ leb (size_of n) size
room_is n size = go (ltb n (size / 16)) refl
  where
    go : (b : Bool) → ltb n (size / 16) ≡ b → b ≡ leb (size_of n) size
    go true e = sym (le-leb (size_of n) size (omega (arith, ltb-true n (size / 16) e)))
    go false e = sym (lt-leb (size_of n) size (omega (arith, ltb-false n (size / 16) e)))

-- the test that was made is the definition's
test_is : (i n size : ℕ) → (ltb i n && leb (size_of n) size) ≡ (ltb i n && ltb n (size / 16))
test_is i n size = ap (λ (b : Bool). ltb i n && b) (sym (room_is n size))

pub returns-then-i-n : goal.returns-then-i-n
unfolding record_among
returns-then-i-n c = rw (test_is c.args.i c.args.n (length c.args.file.now) ∙ c.if-i-n.true) c.record_at.ensures

pub returns-else-i-n : goal.returns-else-i-n
unfolding record_among
returns-else-i-n c = rw (test_is c.args.i c.args.n (length c.args.file.now) ∙ c.if-i-n.false) (search rules)
