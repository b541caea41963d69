-- `arithmetic::arithmetic_ok` meets its contract: the tests in a row.
use mathlib.Core.Path.{sym, ◌∙◌}
use borrow.Author.Rules.{rules}
use mir.Syntax.{w64}
use mir.Val.{SFits}
use mir.Facts.{to_z-of_z}
use Rattle.constraints.specs.Layout.{line_at, constraints_from}
use Rattle.constraints.proofs.Blocks.{listed_is}
use Rattle.arithmetic.proofs.Deciding.{ends_none, ends_other, ends, after_none, after_other, after_all_is, all_usable}
use Rattle.arithmetic.proofs.contradictions.arithmetic_ok.Goals as goal

pub returns-then-count-lt1 : goal.returns-then-count-lt1
returns-then-count-lt1 c =
    let constraints = constraints_from c.args.file.now c.args.start in
    let line = line_at c.args.file.now c.args.at in
    let listed = c.requires.checkable.1 ∙ sym (listed_is line c.requires.checkable.0.few) in
    record { answer = ends_none constraints line _ listed c.if-count-lt1.true; sums = c.requires.sums_value ∙ after_none constraints line _ listed c.if-count-lt1.true }

pub returns-then-not-are_constraints : goal.returns-then-not-are_constraints
returns-then-not-are_constraints c =
    let constraints = constraints_from c.args.file.now c.args.start in
    let line = line_at c.args.file.now c.args.at in
    let listed = c.requires.checkable.1 ∙ sym (listed_is line c.requires.checkable.0.few) in
    let other = sym c.are_constraints.ensures ∙ c.if-not-are_constraints.true in
    record { answer = ends_other constraints line _ listed c.if-count-lt1.false other; sums = c.requires.sums_value ∙ after_other constraints line _ listed other }

pub add_literals-requires-clause-by_index : goal.add_literals-requires-clause-by_index
add_literals-requires-clause-by_index c = all_usable _ _ _ _ c.requires.checkable (sym c.are_constraints.ensures ∙ c.if-not-are_constraints.false) c.requires.by_index

pub bound_of-bound-requires-clause-by_index : goal.bound_of-bound-requires-clause-by_index
bound_of-bound-requires-clause-by_index c = all_usable _ _ _ _ c.requires.checkable (sym c.are_constraints.ensures ∙ c.if-not-are_constraints.false) c.requires.by_index

pub are_zero-requires-clause-by_index : goal.are_zero-requires-clause-by_index
are_zero-requires-clause-by_index c = all_usable _ _ _ _ c.requires.checkable (sym c.are_constraints.ensures ∙ c.if-not-are_constraints.false) c.requires.by_index

pub returns : goal.returns
returns c =
    let constraints = constraints_from c.args.file.now c.args.start in
    let line = line_at c.args.file.now c.args.at in
    let listed = c.requires.checkable.1 ∙ sym (listed_is line c.requires.checkable.0.few) in
    let all = sym c.are_constraints.ensures ∙ c.if-not-are_constraints.false in
    let f : SFits w64 c.bound_of-bound.result = search rules in
    record {
      answer = rw (c.are_zero.ensures, to_z-of_z f)
          (ends constraints line c.args.count listed
          c.if-count-lt1.false
          all
          c.add_literals.new.sums
          c.bound_of-bound.result
          c.add_literals.ensures
          c.bound_of-bound.ensures
          (λ j l. (all_usable _ _ _ _ c.requires.checkable all c.requires.by_index j l).summable.limited.variables));
      sums = c.add_literals.ensures ∙ after_all_is constraints line c.args.count listed all;
    }
