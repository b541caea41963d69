-- `lines::are_slots` meets its contract: the two halves of the test.
use mathlib.Core.Path.{sym, ◌∙◌}
use Rattle.constraints.specs.Layout.{literal_at, multiplier_at}
use Rattle.constraints.specs.Rules.{types_of}
use Rattle.lines.proofs.SlotHalves.{slots_missed, slots_rest}
use Rattle.lines.proofs.shape.are_slots.Goals as goal

pub returns-then-not-are_listed : goal.returns-then-not-are_listed
returns-then-not-are_listed c =
    let file = c.args.file.now in
    slots_missed (types_of c.args.types.now) c.args.k c.args.m c.args.h.kind c.args.h.count
    (literal_at file c.args.at)
    (multiplier_at file c.args.at)
    c.requires.1
    (sym c.are_listed.ensures ∙ c.if-not-are_listed.true)

pub returns : goal.returns
returns c =
    let file = c.args.file.now in
    c.are_unused.ensures
    ∙ slots_rest (types_of c.args.types.now) c.args.k c.args.m c.args.h.kind c.args.h.count
    (literal_at file c.args.at)
    (multiplier_at file c.args.at)
    c.requires.1
    (sym c.are_listed.ensures ∙ c.if-not-are_listed.false)
