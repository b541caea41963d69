-- What the records decide says what it should, where rules 1 to 4 pass; and where all rules pass the file is accepted.
use mathlib.Core.Path.{◌≡◌, refl}
use mathlib.Core.List.{List}
use Prim.Native.Nat.{ℕ}
use Rattle.answers.specs.declared.Place.TheVariants.{Record as AtRecord}
use Rattle.answers.specs.Answer.{accepted}
use Rattle.answers.proofs.Checks.{by_check, by_check_all}
use Rattle.answers.proofs.Lowest.{none, all, first}
use Rattle.node.specs.Layout.{streams_of, property_of}
use Rattle.node.specs.Verdict.{types_verdict, records_verdict, verdict_of}
use Rattle.node.specs.Outcome.{FileRules, NodeRules, at_5, at_6, at_23, at_7, at_8, Says}

module _ (s : List ℕ) where
  pub of_records : FileRules s → Says s (records_verdict s (streams_of s) (property_of s))
  unfolding records_verdict types_verdict
  of_records f =
      by_check_all (Says s) _ 5 AtRecord _ (λ i e. at_5 f (first _ _ _ e)) λ e5.
      by_check_all (Says s) _ 6 AtRecord _ (λ i e. at_6 f (all _ _ e5) (first _ _ _ e)) λ e6.
      by_check_all (Says s) _ 23 AtRecord _ (λ i e. at_23 f (all _ _ e5) (all _ _ e6) (first _ _ _ e)) λ e23.
      by_check_all (Says s) _ 7 AtRecord _ (λ i e. at_7 f (all _ _ e5) (all _ _ e6) (all _ _ e23) (first _ _ _ e)) λ e7.
      by_check (Says s) _ 8 (AtRecord (property_of s)) _ (λ e. at_8 f (all _ _ e5) (all _ _ e6) (all _ _ e23) (all _ _ e7) e) λ e8.
      (record { file = f; shapes = all _ _ e5; operands = all _ _ e6; placed = all _ _ e23; types = all _ _ e7; property = e8 }, refl)

  pub keeps_accepted : NodeRules s → verdict_of s ≡ accepted (record { streams = streams_of s; property = property_of s })
  unfolding verdict_of records_verdict types_verdict
  keeps_accepted r =
      let f = r.file in
      rw
      (f.size, f.fixed, f.counts, f.distance, none _ _ r.shapes, none _ _ r.operands, none _ _ r.placed, none _ _ r.types, r.property)
