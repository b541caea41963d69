-- Every answer to a node file says what it should: accepted exactly where the rules 1 to 8 and 23 hold, refused with the first that
-- fails at its lowest place.
-- Assumes nothing.
use mathlib.Core.Path.{◌≡◌, refl, ◌∙◌, ap, subst}
use mathlib.Core.Bool.{true, false≢true}
use mathlib.Core.List.{List}
use Prim.Native.Nat.{ℕ}
use Rattle.answers.specs.declared.Place.{Place}
use Rattle.answers.specs.declared.Place.TheVariants.{File}
use Rattle.answers.specs.Answer.{Answer, accepted, refused, is_accepted}
use Rattle.answers.specs.declared.NodeValues.{NodeValues}
use Rattle.answers.proofs.Checks.{by_check}
use Rattle.node.specs.Layout.{streams_of, property_of}
use Rattle.node.specs.Verdict.{verdict_of}
use Rattle.node.specs.Outcome.{NodeRules, FirstFailure, at_1, at_2, at_3, at_4, Says}
use Rattle.node.proofs.RecordOutcomes.{of_records}
use Rattle.std.specs.Prelude.{Err, Ok}
pub use Rattle.node.proofs.RecordOutcomes.{keeps_accepted}

module _ (s : List ℕ) where
  pub says : Says s (verdict_of s)
  unfolding verdict_of
  says =
      by_check (Says s) _ 1 File _ at_1 λ e1.
      by_check (Says s) _ 2 File _ (at_2 e1) λ e2.
      by_check (Says s) _ 3 File _ (at_3 e1 e2) λ e3.
      by_check (Says s) _ 4 File _ (at_4 e1 e2 e3) λ e4.
      of_records s (record { size = e1; fixed = e2; counts = e3; distance = e4 })

  pub accepted_keeps : {node : NodeValues} → verdict_of s ≡ accepted node → NodeRules s
  accepted_keeps e = (subst (Says s) e says).0

  pub accepted_values : {node : NodeValues} → verdict_of s ≡ accepted node → node ≡ record { streams = streams_of s; property = property_of s }
  accepted_values e = (subst (Says s) e says).1

  pub refused_first : {number : ℕ} {place : Place} → verdict_of s ≡ refused number place → FirstFailure s number place
  refused_first e = subst (Says s) e says

  -- an answer that is accepted is this one
  pub is_accepted_is : is_accepted (verdict_of s) ≡ true → verdict_of s ≡ accepted (record { streams = streams_of s; property = property_of s })
  is_accepted_is t = go (verdict_of s) refl t
    where
      go : (a : Answer NodeValues) → verdict_of s ≡ a → is_accepted a ≡ true → verdict_of s ≡ accepted (record { streams = streams_of s; property = property_of s })
      go (Ok node) e t = e ∙ ap accepted (accepted_values e)
      go (Err r) e t = absurd (false≢true t)
