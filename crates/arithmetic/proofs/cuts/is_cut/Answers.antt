-- `arithmetic::is_cut` meets its contract: the tests in a row.
use native.Mathlib.Omega.{arith}
use Rattle.constraints.specs.Layout.{Line, line_with}
use Rattle.arithmetic.proofs.Cutting.{empty_uncut, cut_rest}
use Rattle.arithmetic.proofs.cuts.is_cut.Goals as goal

pub returns-then-count-lt1 : goal.returns-then-count-lt1
returns-then-count-lt1 c =
    let line : (Line) = line_with c.args.file.now c.args.at c.args.h in
    empty_uncut line c.if-count-lt1.true

pub returns : goal.returns
returns c =
    let line : (Line) = line_with c.args.file.now c.args.at c.args.h in
    rw (c.are_others.ensures, c.is_last.ensures)
    (cut_rest line c.if-count-lt1.false (omega arith) (omega (arith, c.struct_known-2-1.given)))
