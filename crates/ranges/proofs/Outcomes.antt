-- Every answer to a node and its table says what it should: listed exactly where the rules hold, refused with the first that fails.
-- Assumes nothing.
use mathlib.Core.Path.{◌≡◌, refl, sym, ◌∙◌, subst}
use mathlib.Core.Bool.{false≢true}
use mathlib.Core.List.{List}
use Prim.Native.Nat.{ℕ}
use borrow.Author.Tests.{eq-eqb, eqb-true}
use lib.IntN.{ℤ}
use Rattle.answers.specs.declared.Place.{Place}
use Rattle.answers.specs.declared.Place.TheVariants.{File, Record as AtRecord}
use Rattle.answers.specs.Answer.{Answer, accepted, refused}
use Rattle.answers.specs.declared.NodeValues.{NodeValues}
use Rattle.answers.specs.Checks.{and_then}
use Rattle.answers.proofs.Checks.{by_check, by_check_all}
use Rattle.answers.proofs.Every.{every_all, every_of}
use Rattle.answers.proofs.Lowest.{none, all, first}
use Rattle.node.specs.Outcome.{NodeRules}
use Rattle.node.specs.Verdict.{verdict_of}
use Rattle.node.proofs.Outcomes.{accepted_keeps, keeps_accepted}
use Rattle.node.proofs.Outcomes as Node
use Rattle.ranges.specs.Listing.{table_verdict, listing_of}
use Rattle.ranges.specs.Outcome.{ListedRules, FirstFailure, in_node, at_71_size, at_71_ends, at_72, Says}
use Rattle.std.specs.Prelude.{Err, Ok}

module _ (file : List ℕ) (table : List ℤ) where
  of_table : NodeRules file → Says file table (table_verdict file table)
  unfolding table_verdict
  of_table r =
      by_check (Says file table) _ 71 File _ (λ e. at_71_size r (λ s. false≢true (sym e ∙ eq-eqb _ _ s))) λ size.
      by_check (Says file table) _ 71 File _ (λ e. at_71_ends r (eqb-true _ _ size) (λ ok. false≢true (sym e ∙ every_of _ _ ok))) λ ends.
      by_check_all (Says file table) _ 72 AtRecord _ (λ i e. at_72 r (eqb-true _ _ size) (every_all _ _ ends) (first _ _ _ e)) λ results.
      record { node = r; size = eqb-true _ _ size; ends = every_all _ _ ends; results = all _ _ results }

  pub says : Says file table (listing_of file table)
  unfolding listing_of
  says = go (verdict_of file) refl
    where
      go : (a : Answer NodeValues) → verdict_of file ≡ a → Says file table (and_then a (table_verdict file table))
      go (Ok node) e = of_table (accepted_keeps file e)
      go (Err r) e = in_node (Node.refused_first file e)

  pub listed_keeps : listing_of file table ≡ accepted tt → ListedRules file table
  listed_keeps e = subst (Says file table) e says

  pub keeps_listed : ListedRules file table → listing_of file table ≡ accepted tt
  unfolding listing_of table_verdict
  keeps_listed r = rw (keeps_accepted file r.node, eq-eqb _ _ r.size, every_of _ _ r.ends, none _ _ r.results)

  pub refused_first : {number : ℕ} {place : Place} → listing_of file table ≡ refused number place → FirstFailure file table number place
  refused_first e = subst (Says file table) e says
