-- `arithmetic::add_literals` meets its contract. The loop's invariant: the literals passed are added.
use mathlib.Core.Path.{◌∙◌, ap}
use native.Mathlib.Omega.{arith}
use borrow.Author.Rules.{rules}
use lib.ListN.{length}
use mir.Syntax.{w64}
use mir.Val.{SFits}
use mir.Facts.{to_z-of_z}
use Rattle.integers.proofs.Reading.{rd}
use Rattle.constraints.specs.Layout.{line_at, literal_at, multiplier_at, constraints_from}
use Rattle.rules.specs.Arithmetic.{sum_of}
use Rattle.arithmetic.specs.Sums.{add_form}
use Rattle.arithmetic.proofs.Adding.{abs_factor, length_sums}
use Rattle.arithmetic.proofs.Turns.{sums_within, literal_turn}
use Rattle.arithmetic.proofs.sums.add_literals.Goals as goal

pub loop-j-init : goal.loop-j-init
unfolding sum_of add_form
loop-j-init c = c.requires.sums_value

pub add_terms-requires : goal.add_terms-requires
add_terms-requires c =
    let j = c.loop-j.j in
    let file = c.args.file.now in
    let sums_are = c.loop-j.invariant in
    let good = c.requires.by_index j (omega arith) in
    let f : SFits w64 c.factor_at-factor.result = search rules in record {
      summable = rw c.place_of-place.ensures good.summable;
      factor_bound = rw (to_z-of_z f, c.factor_at-factor.ensures, abs_factor (literal_at file c.args.at j) (multiplier_at file c.args.at j))
          good.multiplier;
      sums_len = (
        ap length sums_are ∙ length_sums (constraints_from file c.args.start) (line_at file c.args.at) j,
        λ x l.
            rw sums_are
            (sums_within file c.args.start c.args.at j (omega arith) (λ i l. c.requires.by_index i (omega arith)) x l),
      );
    }

pub loop-j-preserved : goal.loop-j-preserved
loop-j-preserved c =
    let f : SFits w64 c.factor_at-factor.result = search rules in
    literal_turn c.args.file.now c.args.start c.args.at c.loop-j.j c.loop-j.sums
    c.add_terms.new.sums
    c.place_of-place.result
    (rd w64 c.factor_at-factor.result)
    c.add_terms.ensures
    c.place_of-place.ensures
    (to_z-of_z f ∙ c.factor_at-factor.ensures)
    c.loop-j.invariant
