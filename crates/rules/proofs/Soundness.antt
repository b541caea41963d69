-- A certificate that keeps the rules of a version proves its property: by the base it holds at the first instants, by the step at each
-- instant after k instants at which it holds, where a window of the step may begin at the first of these, and so at every instant. The
-- argument is one for all versions whose base covers what the step does not reach; both versions do.
-- Assumes nothing.
use mathlib.Core.Path.{◌≡◌, refl, sym, ◌∙◌, ap, subst}
use mathlib.Core.Bool.{Bool, true, false}
use mathlib.Core.List.{List}
use Prim.Native.Nat.{ℕ, zero, suc, ◌+◌, ◌-◌, ◌<◌, ◌≤◌}
use native.Mathlib.Nat.{not-suc-le-zero, le_refl}
use native.Mathlib.Omega.{arith}
use borrow.Author.Tests.{leb-true, leb-false}
use lib.Dec.{leb}
use lib.IntN.{ℤ, pos}
use Rattle.node.specs.Layout.{streams_of, property_of}
use Rattle.node.proofs.FileRules.{sizes}
use Rattle.node.proofs.WellFormedness.{well_formed}
use Rattle.streams.specs.Nodes.{node_of, WellFormedNode}
use Rattle.streams.specs.Solutions.{Streams, Solution, is_first}
use Rattle.streams.specs.Typing.{Inputs}
use Rattle.streams.specs.Values.{truth}
use Rattle.streams.proofs.Numbers.{equals_true}
use Rattle.constraints.specs.Layout.{trailer_of, constraint_of}
use Rattle.rules.specs.Outcome.{CertificateRules}
use Rattle.rules.specs.Verdict.{base_of, step_of}
use Rattle.rules.specs.Satisfaction.{Valuation}
use Rattle.rules.specs.Theorems.{PropertyHolds, earliest, Covers}
use Rattle.rules.specs.Versions.{Version, version1, version2}
use Rattle.rules.specs.Windows.{window_from, Solves}
use Rattle.rules.proofs.AcceptedParts.{base_part, step_part, part_refuted}
use Rattle.rules.proofs.CertificateFacts.{certificate_sizes}
use Rattle.rules.proofs.EquationLines.{solved_true}
use Rattle.rules.proofs.PropertyLines.{holds_at, base_property_satisfied, step_property_satisfied}
use Rattle.rules.proofs.SolutionWindows.{window_at, not_first, solves_window}

-- what is not false is true
not_false_true : (b : Bool) → (b ≡ false → ⊥) → b ≡ true
not_false_true true h = refl
not_false_true false h = absurd (h refl)

truth_one : (z : ℤ) → truth z ≡ true → z ≡ pos 1
unfolding truth
truth_one z e = (equals_true z (pos 1)).0 e

-- induction over k instants, from the instant `start` on
module _ (Holds : ℕ → Type 0) (start k : ℕ) (base : (j : ℕ) → j < start + k → Holds j) (step : (t : ℕ) → start ≤ t → ((j : ℕ) → j < k → Holds (t + j)) → Holds (t + k)) where
  always_to : (n t : ℕ) → t < n → Holds t
  always_to zero t l = absurd (not-suc-le-zero l)
  always_to (suc n) t l = go (leb (start + k) t) refl (always_to n)
    where
      go : (b : Bool) → leb (start + k) t ≡ b → ((u : ℕ) → u < n → Holds u) → Holds t
      go true e earlier =
          let past = leb-true (start + k) t e in
          let back : t - k + k ≡ t = omega (arith, past) in
          subst Holds back (step (t - k) (omega (arith, past)) (λ j m. earlier (t - k + j) (omega (arith, past))))
      go false e earlier = base t (leb-false (start + k) t e)

  pub always : (t : ℕ) → Holds t
  always t = always_to (suc t) t (le_refl (suc t))

-- an instant that the step's windows may begin at is as the version says
enters : (version : Version) (t : ℕ) → earliest version ≤ t → version.after ≡ true → is_first (t + 0) ≡ false
enters version t from after =
    let later : 1 ≤ t = rw after at from in
    not_first (t + 0) (omega arith)

module _ (version : Version) (covers : Covers version) (node cert : List ℕ) (rules : CertificateRules version node cert) where
  abbrev k : ℕ
  k = (trailer_of cert).depth

  abbrev prop : ℕ
  prop = property_of node

  formed : WellFormedNode (node_of node)
  formed = well_formed node rules.node_rules

  deep : k ≤ 8
  deep = (certificate_sizes version cert rules.file).deep

  few : streams_of node ≤ 64
  few = (sizes node rules.node_rules.file).few

  low : prop < 64
  low = omega (arith, few, (sizes node rules.node_rules.file).property)

  -- in the base's windows the property holds at each offset that it covers ..
  base_holds : (w : Valuation) → Solves version (node_of node) (base_of version node cert).opening (version.covered k) w → (q : ℕ) → q < version.covered k → holds_at w prop q ≡ true
  base_holds w solves q l =
      not_false_true (holds_at w prop q)
      (λ fails.
      part_refuted version covers node cert rules (base_of version node cert) (base_part version covers node cert rules) w
      (solved_true version (node_of node) formed few (base_of version node cert).opening (version.covered k) w solves)
      (λ line ok. base_property_satisfied (constraint_of cert) w k prop deep low (version.covered k) (covers.within k) line ok q l fails))

  -- .. and in the step's at offset k, where it holds at those below
  step_holds : (w : Valuation) → Solves version (node_of node) (step_of node cert).opening (k + 1) w → ((q : ℕ) → q < k → holds_at w prop q ≡ true) → holds_at w prop k ≡ true
  step_holds w solves before =
      not_false_true (holds_at w prop k)
      (λ fails.
      part_refuted version covers node cert rules (step_of node cert) (step_part version covers node cert rules) w
      (solved_true version (node_of node) formed few (step_of node cert).opening (k + 1) w solves)
      (λ line ok. step_property_satisfied (constraint_of cert) w k prop deep low line ok before fails))

  module _ (inputs : Inputs) (values : Streams) (solution : Solution (node_of node) inputs values) where
    -- the property holds at an instant
    abbrev Holds : ℕ → Type 0
    Holds t = truth (values t prop) ≡ true

    -- the property in a window is that at the instant
    in_window : (start q : ℕ) → holds_at (window_from values start) prop q ≡ truth (values (start + q) prop)
    in_window start q = ap truth (window_at values start q prop low)

    first_instants : (j : ℕ) → j < earliest version + k → Holds j
    first_instants j l =
        let solves = solves_window version (node_of node) formed few inputs values solution 0 (base_of version node cert).opening refl (version.covered k) in
        let held = base_holds (window_from values 0) solves j (omega (arith, covers.reaches k)) in
        let here : 0 + j ≡ j = omega arith in
        subst Holds here (sym (in_window 0 j) ∙ held)

    next_instant : (t : ℕ) → earliest version ≤ t → ((j : ℕ) → j < k → Holds (t + j)) → Holds (t + k)
    next_instant t from before =
        let solves = solves_window version (node_of node) formed few inputs values solution t (step_of node cert).opening (enters version t from) (k + 1) in
        sym (in_window t k) ∙ step_holds (window_from values t) solves (λ q l. in_window t q ∙ before q l)

    pub property_holds : (t : ℕ) → values t prop ≡ pos 1
    property_holds t = truth_one (values t prop) (always Holds (earliest version) k first_instants next_instant t)

pub rules_sound : (version : Version) → Covers version → (node cert : List ℕ) → CertificateRules version node cert → PropertyHolds node
rules_sound version covers node cert rules inputs typed values solution = property_holds version covers node cert rules inputs values solution

-- version 1's base covers instants 0 to k − 1, and its step begins at any instant
pub archive_covers : Covers version1
archive_covers = record { reaches = λ k. omega arith; within = λ k. omega arith }

-- version 2's base covers instant k too, and its step begins after instant 0
pub current_covers : Covers version2
current_covers = record { reaches = λ k. omega arith; within = λ k. omega arith }
