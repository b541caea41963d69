-- `arithmetic::cut_ok` meets its contract: the tests in a row.
use mathlib.Core.Path.{sym, ◌∙◌}
use native.Mathlib.Omega.{arith}
use Rattle.constraints.specs.Layout.{line_at, constraints_from}
use Rattle.rules.specs.Cuts.{as_arithmetic}
use Rattle.arithmetic.proofs.Adding.{sums_long}
use Rattle.arithmetic.proofs.Cutting.{each_usable, cut_ends, after_cut, cut_none, after_none, test_is, cutting, counted}
use Rattle.arithmetic.proofs.cuts.cut_ok.Goals as goal

pub returns-then-not-is_cut : goal.returns-then-not-is_cut
returns-then-not-is_cut c =
    let constraints = constraints_from c.args.file.now c.args.start in
    let line = line_at c.args.file.now c.args.at in
    let none = sym (test_is _ _ _ _ c.requires.checkable _ c.is_cut.ensures) ∙ c.if-not-is_cut.true in
    record { answer = cut_none constraints line none; sums = c.requires.sums_value ∙ after_none constraints line none }

pub overflow_sub-last : goal.overflow_sub-last
overflow_sub-last c = omega (arith, counted _ _ _ _ c.requires.checkable _ c.is_cut.ensures c.if-not-is_cut.false)

pub add_cut-requires : goal.add_cut-requires
add_cut-requires c = record { cutting = cutting _ _ _ _ c.requires.checkable _ c.is_cut.ensures c.if-not-is_cut.false; sums_value = c.requires.sums_value }

pub is_rounded-rounded-requires : goal.is_rounded-rounded-requires
is_rounded-rounded-requires c = cutting _ _ _ _ c.requires.checkable _ c.is_cut.ensures c.if-not-is_cut.false

pub are_zero-requires : goal.are_zero-requires
are_zero-requires c =
    let its_cutting = cutting _ _ _ _ c.requires.checkable _ c.is_cut.ensures c.if-not-is_cut.false in
    let some = counted _ _ _ _ c.requires.checkable _ c.is_cut.ensures c.if-not-is_cut.false in
    record {
      sums_len = sums_long (constraints_from c.args.file.now c.args.start) (as_arithmetic (line_at c.args.file.now c.args.at)) _ _ c.add_cut.ensures;
      by_index = λ j l. each_usable _ _ _ _ _ its_cutting j (omega (arith, some));
    }

pub returns : goal.returns
returns c =
    let its_cutting = cutting _ _ _ _ c.requires.checkable _ c.is_cut.ensures c.if-not-is_cut.false in
    let some = counted _ _ _ _ c.requires.checkable _ c.is_cut.ensures c.if-not-is_cut.false in
    record {
      answer = rw (c.are_zero.ensures, some)
          (cut_ends _ _ _ _ _ its_cutting c.add_cut.new.sums c.is_rounded-rounded.result c.add_cut.ensures c.is_rounded-rounded.ensures);
      sums = c.add_cut.ensures ∙ after_cut _ _ _ _ _ its_cutting;
    }
