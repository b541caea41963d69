-- `ranges::listed_on` meets its contract: 71 by its two tests, then the search for 72.
use mathlib.Core.Path.{refl, sym, ◌∙◌}
use native.Mathlib.Omega.{arith}
use borrow.Author.Tests.{eqb-true}
use Rattle.answers.proofs.Checks.{handed_on, check_stopped, check_passed}
use Rattle.node.proofs.Notes.{accepted_count}
use Rattle.ranges.specs.Listing.{table_verdict}
use Rattle.ranges.proofs.Tables.{all_small, listed_streams, few_streams, length_test, ends_test}
use Rattle.ranges.proofs.listing.listed_on.Goals as goal

pub overflow_mul-n : goal.overflow_mul-n
overflow_mul-n c = omega (arith, few_streams _ c.requires)

pub returns-in_err-check : goal.returns-in_err-check
unfolding table_verdict
returns-in_err-check c = handed_on _ c.from_residual.ensures ∙ check_stopped _ _ _ _ _ (length_test _ c.requires _) c.check.ensures c.in_err-check.was

pub are_ok-requires : goal.are_ok-requires
are_ok-requires c = (accepted_count _ c.requires, few_streams _ c.requires)

pub returns-in_err-check-2 : goal.returns-in_err-check-2
unfolding table_verdict
returns-in_err-check-2 c =
    rw (check_passed _ _ _ _ (length_test _ c.requires _) c.check.ensures c.in_ok-check.was)
    (handed_on _ c.from_residual-in_err-check-2.ensures ∙ check_stopped _ _ _ _ _ (c.are_ok.ensures ∙ ends_test _ c.requires _) c.check-2.ensures c.in_err-check-2.was)

pub invariant_of-ranged : goal.invariant_of-ranged
invariant_of-ranged c =
    let size = eqb-true _ _ (check_passed _ _ _ _ refl c.check.ensures c.in_ok-check.was) in
    let ok = check_passed _ _ _ _ c.are_ok.ensures c.check-2.ensures c.in_ok-check-2.was in
    record { counted = (accepted_count _ c.requires, few_streams _ c.requires); small = all_small _ _ _ size ok }

pub returns : goal.returns
unfolding table_verdict
returns c =
    rw (
      check_passed _ _ _ _ (length_test _ c.requires _) c.check.ensures c.in_ok-check.was,
      check_passed _ _ _ _ (c.are_ok.ensures ∙ ends_test _ c.requires _) c.check-2.ensures c.in_ok-check-2.was,
      sym (listed_streams _ c.requires),
    )
    (c.check_records.ensures ∙ rw c.first_outside.ensures)
