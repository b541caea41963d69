-- Both parts of a certificate that keeps the rules: no window in which the clauses of the node's equations are true satisfies the part's
-- property lines.
-- Assumes nothing.
use mathlib.Core.Path.{◌≡◌, sym, ◌∙◌, ap, subst}
use mathlib.Core.Bool.{true}
use mathlib.Core.List.{List}
use Prim.Native.Nat.{ℕ, ◌<◌, ◌≤◌}
use native.Mathlib.Omega.{arith}
use Rattle.node.specs.Layout.{property_of}
use Rattle.streams.specs.Nodes.{node_of}
use Rattle.constraints.specs.Layout.{Line, used_in, listed_in, trailer_of, constraint_of, line_of}
use Rattle.constraints.proofs.Blocks.{listed_within}
use Rattle.literals.specs.Literals.{atom_of, is_constraint, constraint_number}
use Rattle.rules.specs.Joins.{join_ok}
use Rattle.rules.specs.Limited.{Named}
use Rattle.rules.specs.Lines.{Window, has_empty}
use Rattle.rules.specs.Outcome.{CertificateRules}
use Rattle.rules.specs.Verdict.{types_of_node, lines_of, window_of, base_of, step_of, shape_passes}
use Rattle.rules.specs.Satisfaction.{Valuation, Satisfies}
use Rattle.rules.specs.Theorems.{Covers}
use Rattle.rules.specs.Versions.{Version}
use Rattle.rules.proofs.Contradiction.{accepted}
use Rattle.rules.proofs.ConstraintLimits.{names_constraint}
use Rattle.rules.proofs.LineParts.{part_base, part_step, from_is}
use Rattle.rules.proofs.ShapeFacts.{ShapeFacts, shape_facts}
use Rattle.rules.proofs.ArithmeticLines.{arithmetic_satisfied}
use Rattle.rules.proofs.CertificateFacts.{constraint_limited}
use Rattle.rules.proofs.Cuts.{cut_facts, all_on_is, cut_satisfied, accepted as cut_accepted}
use Rattle.rules.proofs.EquationLines.{ClausesTrue, equation_satisfied}
use Rattle.rules.proofs.Parts.{Premises, refuted}

-- a part: its window is that of each of its lines, and one of them is empty
pub record IsPart (version : Version) (node cert : List ℕ) (part : Window) : Type 0 where
  pub lines : part.until ≤ lines_of cert
  pub is : (i : ℕ) → part.from ≤ i → i < part.until → window_of version node cert i ≡ part
  pub ends : has_empty (line_of cert) part ≡ true

module _ (version : Version) (covers : Covers version) (node cert : List ℕ) (rules : CertificateRules version node cert) where
  pub base_part : IsPart version node cert (base_of version node cert)
  base_part =
      record { lines = omega arith; is = λ i l m. part_base version cert (property_of node) i m; ends = rules.base_ends }

  pub step_part : IsPart version node cert (step_of node cert)
  step_part =
      record { lines = omega arith; is = λ i l m. part_step version cert (property_of node) i l; ends = rules.step_ends }

  shape : (i : ℕ) → i < lines_of cert → ShapeFacts (types_of_node node) (trailer_of cert).depth (trailer_of cert).constraints (line_of cert i)
  unfolding shape_passes
  shape i l = shape_facts (types_of_node node) (trailer_of cert).depth (trailer_of cert).constraints (line_of cert i) (rules.shapes i l)

  -- the constraint of a line's literal names variables
  named : (i : ℕ) → i < lines_of cert → (j : ℕ) → j < listed_in (line_of cert i) → is_constraint (atom_of ((line_of cert i).literal j)) ≡ true
      → let c = constraint_of cert (constraint_number (atom_of ((line_of cert i).literal j))) in Named c (used_in c)
  named i l j m on =
      let line = line_of cert i in
      let atom = atom_of (line.literal j) in
      let below = names_constraint (types_of_node node) (trailer_of cert).depth (trailer_of cert).constraints atom ((shape i l).atoms j (omega (arith, listed_within line))) on in
      (constraint_limited version node cert rules (constraint_number atom) below).variables

  arithmetic_line : (w : Valuation) (i : ℕ) → i < lines_of cert → (line_of cert i).head.kind ≡ 4 → Satisfies (constraint_of cert) w (line_of cert i)
  arithmetic_line w i l kind =
      let passes = rules.arithmetic i l kind in
      arithmetic_satisfied (constraint_of cert) w (line_of cert i) passes
      (λ j m. named i l j m ((accepted (constraint_of cert) (line_of cert i) passes).on_constraints j m))

  cut_line : (w : Valuation) (i : ℕ) → i < lines_of cert → (line_of cert i).head.kind ≡ 5 → Satisfies (constraint_of cert) w (line_of cert i)
  cut_line w i l kind =
      let passes = rules.cuts i l kind in
      let told = cut_facts (line_of cert i) (cut_accepted (constraint_of cert) (line_of cert i) passes).cut in
      cut_satisfied (constraint_of cert) w (line_of cert i) passes
      (λ j m. named i l j m (all_on_is (constraint_of cert) (line_of cert i) told j m))

  module _ (part : Window) (p : IsPart version node cert part) (w : Valuation) where
    premises :
        ClausesTrue version (node_of node) part.opening part.offsets w
        → ((line : Line) → part.property line ≡ true → Satisfies (constraint_of cert) w line)
        → Premises (constraint_of cert) (line_of cert) part w
    premises true_there property =
        let listed : (i : ℕ) → i < part.until → i < lines_of cert = λ i m. omega (arith, p.lines) in
        record {
          least = λ i l m. (shape i (listed i m)).least;
          most = λ i l m. (shape i (listed i m)).most;
          equations =
              λ i l m kind.
              equation_satisfied version covers node cert rules i (rules.equations i (listed i m) kind) w
              (subst (λ (v : Window). ClausesTrue version (node_of node) v.opening v.offsets w) (sym (p.is i l m)) true_there);
          properties =
              λ i l m kind.
              property (line_of cert i)
              (subst (λ (v : Window). v.property (line_of cert i) ≡ true) (p.is i l m) (rules.properties i (listed i m) kind));
          joins =
              λ i l m kind.
              subst (λ (n : ℕ). join_ok (line_of cert) n i ≡ true)
              (sym (from_is version cert (property_of node) i) ∙ ap (λ (v : Window). v.from) (p.is i l m))
              (rules.joins i (listed i m) kind);
          arithmetic = λ i l m kind. arithmetic_line w i (listed i m) kind;
          cuts = λ i l m kind. cut_line w i (listed i m) kind;
        }

    pub part_refuted :
        ClausesTrue version (node_of node) part.opening part.offsets w
        → ((line : Line) → part.property line ≡ true → Satisfies (constraint_of cert) w line)
        → ⊥
    part_refuted true_there property = refuted (constraint_of cert) (line_of cert) part w (premises true_there property) p.ends
