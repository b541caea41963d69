-- Every answer to a node file and a certificate says what it should: accepted exactly where the published rules hold, refused with
-- the first that fails at its lowest place.
-- Assumes nothing.
use mathlib.Core.Path.{◌≡◌, refl, sym, ◌∙◌, subst}
use mathlib.Core.Logic.{◌↔◌}
use mathlib.Core.Bool.{true, false≢true}
use mathlib.Core.List.{List}
use Prim.Native.Nat.{ℕ, ◌<◌}
use Rattle.answers.specs.declared.Place.{Place}
use Rattle.answers.specs.declared.Place.TheVariants.{File, Constraint as AtConstraint, Line as AtLine, Base, Step}
use Rattle.answers.specs.Answer.{Answer, accepted, refused}
use Rattle.answers.specs.declared.NodeValues.{NodeValues}
use Rattle.answers.specs.declared.CertificateValues.{CertificateValues}
use Rattle.answers.specs.Checks.{and_then}
use Rattle.answers.proofs.Checks.{by_check, by_check_all}
use Rattle.answers.proofs.Lowest.{none, all, first}
use Rattle.node.specs.Outcome.{NodeRules}
use Rattle.node.specs.Verdict.{verdict_of as node_verdict}
use Rattle.node.proofs.Outcomes.{accepted_keeps as node_keeps, refused_first as node_first, keeps_accepted as node_accepted}
use Rattle.rules.specs.Outcome.{FileRules, LinesKeep, CertificateRules, BeforeLines, FirstFailure, in_node, at_11, at_12, at_13, at_14, at_15, at_21_base, at_21_step, Says}
use Rattle.rules.specs.Verdict.{lines_of, values_of, shape_passes, line_fault, line_passes, check_lines, parts_verdict, lines_verdict, constraints_verdict, file_verdict, before_lines, verdict_of}
use Rattle.rules.specs.Versions.{Version}
use Rattle.rules.proofs.LineFaults.{KindRules, line_kept, line_passes_is, line_broken}
use Rattle.rules.proofs.Matches.{equation_means, equation_test}
use Rattle.std.specs.Prelude.{Err, None, Ok, Option, Some}

-- the lowest line at fault, or the rest
by_lines : (P : Answer CertificateValues → Type 0) (found : Option ℕ) (number : ℕ → ℕ) (rest : Answer CertificateValues) → ((i : ℕ) → found ≡ Some i → P (refused (number i) (AtLine i))) → (found ≡ None → P rest) → P (check_lines found number rest)
by_lines P (Some i) number rest f g = f i refl
by_lines P None number rest f g = g refl

module _ (version : Version) (node cert : List ℕ) where
  kept : LinesKeep cert (line_passes version node cert) → (i : ℕ) → i < lines_of cert → (shape_passes node cert i ≡ true) × KindRules version node cert i
  kept h i l = line_kept version node cert i (h i l)

  of_parts : BeforeLines version node cert → LinesKeep cert (line_passes version node cert) → Says version node cert (parts_verdict version node cert)
  unfolding parts_verdict
  of_parts b lines =
      by_check (Says version node cert) _ 21 Base _ (λ e21. at_21_base b lines e21) λ e21.
      by_check (Says version node cert) _ 21 Step _ (λ e22. at_21_step b lines e21 e22) λ e22. (
        record {
          node_rules = b.node_rules;
          file = b.file;
          constraints = b.constraints;
          shapes = λ i l. (kept lines i l).0;
          equations = λ i l k. equation_means version node cert i ((kept lines i l).1.equation k);
          properties = λ i l k. (kept lines i l).1.property k;
          joins = λ i l k. (kept lines i l).1.join k;
          arithmetic = λ i l k. (kept lines i l).1.arithmetic k;
          cuts = λ i l k. (kept lines i l).1.cut k;
          base_ends = e21;
          step_ends = e22;
        },
        refl,
      )

  of_lines : BeforeLines version node cert → Says version node cert (lines_verdict version node cert)
  unfolding lines_verdict
  of_lines b =
      by_lines (Says version node cert) _ (line_fault version node cert) _
      (λ i e.
      let at = first _ _ _ e in
      line_broken version node cert i (record { before = b; below = at.below; earlier = at.before }) at.fails)
      λ e. of_parts b (all _ _ e)

  -- what the answer of the checks before lines says
  abbrev Opens : Answer (Unit {0}) → Type 0
  Opens (Ok v) = BeforeLines version node cert
  Opens (Err r) = FirstFailure version node cert r.number r.place

  of_file : NodeRules node → Opens (file_verdict version node cert)
  unfolding file_verdict constraints_verdict
  of_file n =
      by_check Opens _ 11 File _ (at_11 n) λ e1.
      by_check Opens _ 12 File _ (at_12 n e1) λ e2.
      by_check Opens _ 13 File _ (at_13 n e1 e2) λ e3.
      by_check Opens _ 14 File _ (at_14 n e1 e2 e3) λ e4.
      let f : FileRules version cert = record { size = e1; fixed = e2; counts = e3; distance = e4 } in
      by_check_all Opens _ 15 AtConstraint _ (λ i e. at_15 n f (first _ _ _ e)) λ e.
      record { node_rules = n; file = f; constraints = all _ _ e }

  -- what is known where no check before lines fails
  pub file_opens : NodeRules node → {v : Unit {0}} → file_verdict version node cert ≡ accepted v → BeforeLines version node cert
  file_opens n e = subst Opens e (of_file n)

  after_node : (a : Answer NodeValues) → node_verdict node ≡ a → Opens (and_then a (file_verdict version node cert))
  after_node (Ok v) e = of_file (node_keeps node e)
  after_node (Err r) e = in_node (node_first node e)

  pub opens : {v : Unit {0}} → before_lines version node cert ≡ accepted v → BeforeLines version node cert
  unfolding before_lines
  opens e = subst Opens e (after_node (node_verdict node) refl)

  after_opening : (a : Answer (Unit {0})) → Opens a → Says version node cert (and_then a (lines_verdict version node cert))
  after_opening (Ok v) b = of_lines b
  after_opening (Err r) f = f

  pub says : Says version node cert (verdict_of version node cert)
  unfolding verdict_of before_lines
  says = after_opening (before_lines version node cert) (after_node (node_verdict node) refl)

  pub accepted_keeps : {v : CertificateValues} → verdict_of version node cert ≡ accepted v → CertificateRules version node cert
  accepted_keeps e = (subst (Says version node cert) e says).0

  -- "with its depth and both line counts, as the trailer has them"
  pub accepted_values : {v : CertificateValues} → verdict_of version node cert ≡ accepted v → v ≡ values_of cert
  accepted_values e = (subst (Says version node cert) e says).1

  pub refused_first : {number : ℕ} {place : Place} → verdict_of version node cert ≡ refused number place → FirstFailure version node cert number place
  refused_first e = subst (Says version node cert) e says

  lines_keep : CertificateRules version node cert → LinesKeep cert (line_passes version node cert)
  lines_keep r i l =
      let rules : KindRules version node cert i =
      record {
        equation = λ k. equation_test version node cert i r.node_rules (r.equations i l k);
        property = r.properties i l;
        join = r.joins i l;
        arithmetic = r.arithmetic i l;
        cut = r.cuts i l;
      } in
      line_passes_is version node cert i (r.shapes i l) rules

  abbrev Accepts : Answer CertificateValues → Type 0
  Accepts a = a ≡ accepted (values_of cert)

  pub keeps_accepted : CertificateRules version node cert → verdict_of version node cert ≡ accepted (values_of cert)
  unfolding verdict_of before_lines file_verdict constraints_verdict lines_verdict parts_verdict
  keeps_accepted r =
      let f = r.file in
      rw (
        node_accepted node r.node_rules,
        f.size,
        f.fixed,
        f.counts,
        f.distance,
        none _ _ r.constraints,
        none _ _ (lines_keep r),
      )
      (by_check Accepts _ 21 Base _ (λ e. absurd (false≢true (sym e ∙ r.base_ends))) λ _.
      by_check Accepts _ 21 Step _ (λ e. absurd (false≢true (sym e ∙ r.step_ends))) λ _. refl)

  -- the published rules, and only they
  pub accepted_exactly : (verdict_of version node cert ≡ accepted (values_of cert)) ↔ CertificateRules version node cert
  accepted_exactly = (accepted_keeps, keeps_accepted)
