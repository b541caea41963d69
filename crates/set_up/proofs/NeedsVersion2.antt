-- The node of set-up needs version 2: at depth 1 version 1 had no certificate, since in one window all that it says of the step is true.
-- Assumes nothing.
use mathlib.Core.Path.{◌≡◌, refl, sym, ◌∙◌, ap, subst}
use mathlib.Core.Bool.{Bool, true, false, cond, ◌&&◌}
use mathlib.Core.List.{List, [], ◌∷◌}
use Prim.Native.Nat.{ℕ, zero, suc, ◌<◌, ◌%◌}
use native.Mathlib.Nat.{not-suc-le-zero}
use native.Mathlib.Omega.{arith}
use lib.Dec.{ltb}
use lib.IntN.{pos}
use Rattle.fields.specs.Fields.{twos_complement}
use Rattle.answers.specs.declared.CertificateValues.{CertificateValues}
use Rattle.answers.specs.Checks.{every}
use Rattle.answers.proofs.Tests.{both_true}
use Rattle.answers.proofs.Every.{every_all}
use Rattle.node.specs.Equations.{type_among, decoded}
use Rattle.node.specs.Layout.{records_of, record_among, streams_of, property_of}
use Rattle.node.specs.Written.{record_bytes, trailer_bytes, node_file}
use Rattle.streams.specs.Nodes.{node_of}
use Rattle.streams.specs.Values.{truth, equals, values_in}
use Rattle.constraints.specs.Layout.{trailer_of, constraint_of}
use Rattle.rules.specs.declared.pattern.Clause.{Clause}
use Rattle.rules.specs.declared.pattern.Position.TheVariants.{Entry}
use Rattle.rules.specs.Verdict.{step_of}
use Rattle.rules.specs.Versions.{version1}
use Rattle.rules.specs.Outcome.{CertificateRules}
use Rattle.rules.specs.Satisfaction.{Valuation, pattern_true, clause_true}
use Rattle.rules.proofs.AcceptedParts.{step_part, part_refuted}
use Rattle.rules.proofs.ClauseForms.{AllTrue}
use Rattle.rules.proofs.EquationLines.{clauses_at, ClausesTrue}
use Rattle.rules.proofs.Outcomes.{accepted_keeps, accepted_values}
use Rattle.rules.proofs.PropertyLines.{holds_at, step_property_satisfied}
use Rattle.rules.proofs.Soundness.{archive_covers}
use Rattle.set_up.specs.SetUp.{carried, set_up, NeedsVersion2}
use Rattle.set_up.proofs.Accepted.{has_certificate}

-- a window of two offsets in which all clauses of version 1 are true: nothing is said of stream 2 at the first. The property holds
-- there, and fails at the second.
abbrev window : Valuation
window x = values_in (cond (ltb x 64) (pos 5 ∷ pos 0 ∷ pos 6 ∷ pos 0 ∷ pos 1 ∷ []) (pos 5 ∷ pos 0 ∷ pos 0 ∷ pos 6 ∷ pos 0 ∷ [])) (x % 64)

all_true : List Clause → Bool
all_true [] = true
all_true (c ∷ cs) = clause_true window c && all_true cs

all_true_is : (cs : List Clause) → all_true cs ≡ true → AllTrue window cs
unfolding all_true
all_true_is [] e = tt
all_true_is (c ∷ cs) e = let both = both_true (clause_true window c) (all_true cs) e in (both.0, all_true_is cs both.1)

five_streams : streams_of set_up ≡ 5
unfolding carried node_file record_bytes trailer_bytes
five_streams = refl

property_4 : property_of set_up ≡ 4
unfolding carried node_file record_bytes trailer_bytes
property_4 = refl

abbrev true_at : (p q : ℕ) → Bool
true_at p q = all_true (clauses_at version1 (node_of set_up) Entry p q)

computed : every (λ p. every (true_at p) 2) 5 ≡ true
unfolding carried all_true clause_true pattern_true truth equals node_file record_bytes trailer_bytes records_of record_among twos_complement type_among decoded every
computed = refl

clauses_true : ClausesTrue version1 (node_of set_up) Entry 2 window
clauses_true p q l o =
    all_true_is _ (every_all (true_at p) 2 (every_all (λ p. every (true_at p) 2) 5 computed p (subst (λ n. p < n) five_streams l)) q o)

holds_first : (j : ℕ) → j < 1 → holds_at window 4 j ≡ true
unfolding truth equals
holds_first zero l = refl
holds_first (suc j) l = absurd (not-suc-le-zero {n = j} (omega (arith, l)))

fails_second : holds_at window 4 1 ≡ false
unfolding truth equals
fails_second = refl

none_of_depth_1 : (cert : List ℕ) → CertificateRules version1 set_up cert → (trailer_of cert).depth ≡ 1 → ⊥
none_of_depth_1 cert rules one =
    part_refuted version1 archive_covers set_up cert rules (step_of set_up cert) (step_part version1 archive_covers set_up cert rules) window
    (rw one clauses_true)
    (rw (one, property_4) (λ line ok. step_property_satisfied (constraint_of cert) window 1 4 (omega arith) (omega arith) line ok holds_first fails_second))

pub needs_version_2 : NeedsVersion2
needs_version_2 =
    record {
      has = has_certificate;
      had_none =
          λ cert v e one.
          none_of_depth_1 cert (accepted_keeps version1 set_up cert e)
          (ap (λ (w : CertificateValues). w.depth) (sym (accepted_values version1 set_up cert e)) ∙ one);
    }
