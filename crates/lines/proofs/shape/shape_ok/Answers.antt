-- `lines::shape_ok` meets its contract: the tests in a row.
use mathlib.Core.Path.{◌≡◌, sym, ◌∙◌}
use mathlib.Core.Bool.{◌&&◌}
use lib.Dec.{leb}
use Rattle.constraints.specs.Layout.{Line, line_with}
use Rattle.constraints.specs.Rules.{types_of}
use Rattle.rules.specs.Lines.{numbers_ok}
use Rattle.lines.proofs.SlotHalves.{shape_many, shape_missed, shape_rest}
use Rattle.lines.proofs.shape.shape_ok.Goals as goal

pub returns-then-h-gt12 : goal.returns-then-h-gt12
returns-then-h-gt12 c =
    let line : (Line) = line_with c.args.file.now c.args.at c.args.h in
    shape_many (types_of c.args.types.now) c.args.k c.args.m line c.if-h-gt12.true

pub returns-then-not-h-are_numbers : goal.returns-then-not-h-are_numbers
returns-then-not-h-are_numbers c =
    let line : (Line) = line_with c.args.file.now c.args.at c.args.h in
    let numbers_are : (let h = c.args.h in (leb 1 h.kind && leb h.kind 5 && c.are_numbers.result) ≡ (leb 1 h.kind && leb h.kind 5 && numbers_ok h)) = rw c.are_numbers.ensures in
    shape_missed (types_of c.args.types.now) c.args.k c.args.m line c.if-h-gt12.false
    (sym numbers_are ∙ c.if-not-h-are_numbers.true)

pub returns : goal.returns
returns c =
    let line : (Line) = line_with c.args.file.now c.args.at c.args.h in
    let numbers_are : (let h = c.args.h in (leb 1 h.kind && leb h.kind 5 && c.are_numbers.result) ≡ (leb 1 h.kind && leb h.kind 5 && numbers_ok h)) = rw c.are_numbers.ensures in
    c.are_slots.ensures
    ∙ shape_rest (types_of c.args.types.now) c.args.k c.args.m line c.if-h-gt12.false
    (sym numbers_are ∙ c.if-not-h-are_numbers.false)
