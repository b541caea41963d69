-- `node::needs_of_all` meets its contract. The loop's invariant: the needs of the records passed are there.
use mathlib.Core.Path.{◌∙◌, ap}
use native.Mathlib.Omega.{arith}
use lib.ListN.{length-set}
use Rattle.answers.proofs.Entries.{entries_more}
use Rattle.node.specs.Layout.{record_of}
use Rattle.node.specs.Ordering.{needs_in}
use Rattle.node.proofs.Records.{record_among_is}
use Rattle.node.proofs.ordering.needs_of_all.Goals as goal

pub loop-i-preserved : goal.loop-i-preserved
loop-i-preserved c =
    let made = c.needs_of.ensures ∙ ap needs_in (c.record_among.ensures ∙ record_among_is _ _ c.requires.0 _) in (
      simp length-set c.loop-i.invariant.0,
      entries_more (λ k. needs_in (record_of c.args.file.now k)) _ c.loop-i.needs c.loop-i.i c.loop-i.invariant.1 (omega arith) made,
    )
