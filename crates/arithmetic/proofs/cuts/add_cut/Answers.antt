-- `arithmetic::add_cut` meets its contract: the others are added, then the last one's constraint times −r.
use mathlib.Core.Path.{◌≡◌, ◌∙◌, ap}
use native.Mathlib.Omega.{arith}
use lib.IntN.{pos}
use lib.ListN.{length}
use Rattle.integers.proofs.Abs.{abs_negℤ}
use Rattle.constraints.specs.Layout.{line_at, constraints_from}
use Rattle.arithmetic.specs.Sums.{sums_of}
use Rattle.arithmetic.proofs.Adding.{length_sums}
use Rattle.arithmetic.proofs.Cutting.{few, each_usable, last_turn}
use Rattle.arithmetic.proofs.Turns.{sums_within}
use Rattle.arithmetic.proofs.Words.{negated_word}
use Rattle.arithmetic.proofs.cuts.add_cut.Goals as goal

pub add_literals-requires : goal.add_literals-requires
add_literals-requires c = record { count_bound = omega (arith, few _ _ _ _ _ c.requires.cutting); by_index = (λ j l. each_usable _ _ _ _ _ c.requires.cutting j (omega arith)); sums_value = c.requires.sums_value }

pub place_of-place-requires : goal.place_of-place-requires
place_of-place-requires c = each_usable _ _ _ _ _ c.requires.cutting c.args.last (omega arith)

pub add_terms-requires : goal.add_terms-requires
add_terms-requires c =
    let lent_length : (length c.add_literals.new.sums ≡ 576) = let file = c.args.file.now in
    ap length {y = sums_of (constraints_from file c.args.start) (line_at file c.args.at) c.args.last} c.add_literals.ensures
    ∙ length_sums (constraints_from file c.args.start) (line_at file c.args.at) c.args.last in
    let file = c.args.file.now in
    let good = each_usable _ _ _ _ _ c.requires.cutting c.args.last (omega arith) in record {
      summable = rw c.place_of-place.ensures good.summable;
      factor_bound = rw (negated_word c.args.r (omega arith), abs_negℤ (pos c.args.r)) (omega arith);
      sums_len = (
        lent_length,
        λ x l.
            rw c.add_literals.ensures
            (sums_within file c.args.start c.args.at c.args.last (omega (arith, few _ _ _ _ _ c.requires.cutting)) (λ j l. each_usable _ _ _ _ _ c.requires.cutting j (omega arith)) x l),
      );
    }

pub returns : goal.returns
returns c =
    last_turn _ _ _ _ _ c.requires.cutting c.add_literals.new.sums c.add_terms.new.sums c.place_of-place.result _
    c.add_terms.ensures
    c.place_of-place.ensures
    (negated_word c.args.r (omega arith))
    c.add_literals.ensures
