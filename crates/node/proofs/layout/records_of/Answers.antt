-- `node::records_of` meets its contract: each way out is a case of `recordsOf`.
use mathlib.Core.Path.{◌≡◌, ◌∙◌, ap}
use borrow.Author.Tests.{le-leb, lt-leb}
use Rattle.node.specs.declared.layout.Trailer.{Trailer}
use Prim.Native.Nat.{ℕ}
use mathlib.Core.List.{List}
use Rattle.node.specs.Layout.{records_of, streams_of, trailer_of}
use Rattle.node.proofs.layout.records_of.Goals as goal

-- the stream count that was read
streams_is : {t : Trailer} (file : List ℕ) → t ≡ trailer_of file → t.streams ≡ streams_of file
streams_is file e = ap (λ (t : Trailer). t.streams) e

pub returns-then-size-lt16 : goal.returns-then-size-lt16
unfolding records_of
returns-then-size-lt16 c = rw (lt-leb _ _ c.if-size-lt16.true)

pub returns-then-size-n : goal.returns-then-size-n
unfolding records_of
returns-then-size-n c =
    rw (le-leb 16 _ c.if-size-lt16.false, lt-leb _ _ (rw (streams_is c.args.file.now c.trailer_of-trailer.ensures) at c.if-size-n.true))

pub returns : goal.returns
unfolding records_of
returns c =
    streams_is c.args.file.now c.trailer_of-trailer.ensures
    ∙ rw (le-leb 16 _ c.if-size-lt16.false, le-leb _ _ (rw (streams_is c.args.file.now c.trailer_of-trailer.ensures) at c.if-size-n.false))
