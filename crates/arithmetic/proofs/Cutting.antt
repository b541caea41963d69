-- A cut's sums are those of kind 4 with the multiplier r on its last literal.
-- Assumes nothing.
use mathlib.Core.Path.{◌≡◌, refl, sym, ◌∙◌, ap, ap₂}
use mathlib.Core.List.{List}
use mathlib.Core.Bool.{Bool, true, false, ◌&&◌, and-true}
use Prim.Native.Nat.{ℕ, ◌+◌, ◌-◌, ◌≤◌, ◌<◌}
use native.Mathlib.Omega.{arith}
use borrow.Author.Tests.{eqb-true, eqb-false, le-leb, lt-leb}
use lib.Dec.{leb, eqb}
use lib.IntN.{ℤ, pos, neg_ℤ}
use lib.ListN.{replicate}
use Rattle.answers.specs.Checks.{every}
use Rattle.answers.proofs.Every.{every_of}
use Rattle.constraints.specs.declared.layout.LineHead.{LineHead}
use Rattle.constraints.specs.Layout.{Constraint, Line, used_in, listed_in, line_head_at, constraint_at, line_at, literal_at, multiplier_at, constraints_from, line_with}
use Rattle.constraints.specs.Linear.{Bounded, scaled, written}
use Rattle.constraints.proofs.Blocks.{listed_is, listed_within}
use Rattle.literals.specs.Literals.{atom_of, is_constraint}
use Rattle.rules.specs.Arithmetic.{sum_of}
use Rattle.rules.specs.Cuts.{others, last_ok, other_ok, is_cut, rounded_ok, cut_ok, as_arithmetic}
use Rattle.rules.proofs.Cuts.{CutFacts, cut_facts, others_sum_is, last_weight, zeros_test, all_on_is, same_count, accepted}
use Rattle.rules.proofs.ShapeFacts.{multiplier_small}
use Rattle.arithmetic.specs.Sums.{add_form, sums_of, sums_after_cut, place_of, factor_of, terms_zero}
use Rattle.arithmetic.specs.Checkable.{Checkable, Usable, Cutting}
use Rattle.arithmetic.proofs.Adding.{on, sums_more}
use Rattle.arithmetic.proofs.Deciding.{usable, after_all_is, passed_clear}
use Rattle.arithmetic.proofs.Named.{named_suffice}

module _ (s : List ℕ) (start at last r : ℕ) (given : Cutting s start at last r) where
  abbrev constraints : ℕ → Constraint
  constraints = constraints_from s start

  abbrev line : Line
  line = line_at s at

  facts : CutFacts line
  facts = cut_facts line given.cut

  pub listed : listed_in line ≡ last + 1
  listed = omega (arith, facts.some, given.last_is)

  count : (line_head_at s at).count ≡ last + 1
  count = sym (listed_is line given.checkable.few) ∙ listed

  pub few : last < 12
  few = omega (arith, count, given.checkable.few)

  pub divisor : 1 ≤ r
  divisor = rw given.r_is facts.divisor

  -- each multiplier is within the limit: the last is 0
  small : (j : ℕ) → j < last + 1 → multiplier_at s at j ≤ 1000000
  small j l = go (eqb j (others line)) refl
    where
      go : (t : Bool) → eqb j (others line) ≡ t → multiplier_at s at j ≤ 1000000
      go true e = rw (eqb-true j (others line) e, facts.last_multiplier) (omega arith)
      go false e =
          let other = eqb-false j (others line) e in
          multiplier_small (multiplier_at s at j) (facts.multipliers j (omega (arith, other, given.last_is)))

  pub each_usable : (j : ℕ) → j < last + 1 → Usable s start at j
  each_usable j l =
      usable s start at (last + 1) given.checkable (sym count) j l (all_on_is constraints line facts j (omega (arith, listed))) (small j l)

  -- ---- the sums

  others_same : sum_of constraints (as_arithmetic line) last ≡ sum_of constraints line last
  others_same = rw given.last_is (others_sum_is constraints line facts)

  factor_is : factor_of (literal_at s at last) ((as_arithmetic line).multiplier last) ≡ neg_ℤ (pos r)
  unfolding factor_of
  factor_is = rw (given.last_is, given.r_is, facts.last_sign, last_weight constraints line facts)

  -- the last literal's constraint, times −r, added to the others' sums
  pub last_turn : (sums next : List ℤ) (place : ℕ) (factor : ℤ)
      → next ≡ add_form sums (scaled factor (written (constraint_at s place) (used_in (constraint_at s place))))
      → place ≡ place_of s start at last
      → factor ≡ neg_ℤ (pos r)
      → sums ≡ sums_of constraints line last
      → next ≡ sums_of constraints (as_arithmetic line) (last + 1)
  last_turn sums next place factor e f g h =
      let c = constraint_at s (place_of s start at last) in
      let added : (sum : Bounded) (z : ℤ) → List ℤ = λ sum z. add_form (add_form (replicate 576 (pos 0)) sum.form) (scaled z (written c (used_in c))) in
      e ∙ rw (f, g, h) (sym (sums_more constraints (as_arithmetic line) last ∙ ap₂ added others_same factor_is))

  -- ---- the answer

  pub cut_ends : (sums : List ℤ) (rounded : Bool) → sums ≡ sums_of constraints (as_arithmetic line) (last + 1) → rounded ≡ rounded_ok constraints line
      → (every (λ j. terms_zero sums (on constraints line j)) (last + 1) && rounded) ≡ cut_ok constraints line
  unfolding cut_ok
  cut_ends sums rounded g h =
      rw (
        g,
        h,
        named_suffice constraints (as_arithmetic line) (last + 1) (λ j l. (each_usable j l).summable.limited.variables),
        ← listed,
        zeros_test constraints line facts,
        given.cut,
      )

  pub after_cut : sums_of constraints (as_arithmetic line) (last + 1) ≡ sums_after_cut constraints line
  unfolding sums_after_cut
  after_cut = rw (given.cut, listed)

-- ---- the tests of literals, multipliers and r in the order in which the code meets them

module _ (line : Line) where
  abbrev n : ℕ
  n = line.head.count

  pub empty_uncut : n < 1 → false ≡ is_cut line
  unfolding is_cut
  empty_uncut l = rw (lt-leb 1 (listed_in line) (omega (arith, listed_within line)))

  pub cut_rest : 1 ≤ n → n ≤ 12 → line.head.r ≤ 65535
      → (last_ok (line.literal (n - 1)) (line.multiplier (n - 1)) && every (λ j. other_ok (line.literal j) (line.multiplier j)) (n - 1) && leb 1 line.head.r) ≡ is_cut line
  unfolding is_cut
  cut_rest some few small = rw (listed_is line few, le-leb 1 n some, le-leb line.head.r 65535 small, and-true _)

-- ---- the answer and the sums by it

module _ (constraints : ℕ → Constraint) (line : Line) where
  pub cut_none : is_cut line ≡ false → false ≡ cut_ok constraints line
  unfolding cut_ok
  cut_none e = rw e

  pub after_none : is_cut line ≡ false → replicate 576 (pos 0) ≡ sums_after_cut constraints line
  unfolding sums_after_cut
  after_none e = rw e

  -- a cut that passes leaves the sums at zero
  pub cut_clear : cut_ok constraints line ≡ true → sums_after_cut constraints line ≡ replicate 576 (pos 0)
  unfolding sums_after_cut
  cut_clear e =
      let told = accepted constraints line e in
      let all = every_of (λ j. is_constraint (atom_of (line.literal j))) (listed_in line) (all_on_is constraints line (cut_facts line told.cut)) in
      rw told.cut
      (after_all_is constraints (as_arithmetic line) (listed_in line) (sym (same_count line)) all
      ∙ passed_clear constraints (as_arithmetic line) told.arithmetic)

-- ---- a line whose head was read, and which was tested

module _ (s : List ℕ) (start at : ℕ) (h : LineHead) (given : Checkable s start at × (h ≡ line_head_at s at)) (passed : Bool) (e : passed ≡ is_cut (line_with s at h)) where
  pub test_is : passed ≡ is_cut (line_at s at)
  test_is = e ∙ ap (λ (h : LineHead). is_cut (line_with s at h)) given.1

  module _ (yes : passed ≡ true) where
    pub cutting : Cutting s start at (h.count - 1) h.r
    cutting = record {
      checkable = given.0;
      cut = sym test_is ∙ yes;
      last_is = ap (λ (h : LineHead). h.count - 1) given.1 ∙ ap (λ (n : ℕ). n - 1) (sym (listed_is (line_at s at) given.0.few));
      r_is = ap (λ (h : LineHead). h.r) given.1;
    }

    pub counted : h.count ≡ h.count - 1 + 1
    counted = omega (arith, ap (λ (h : LineHead). h.count) given.1, listed s start at _ _ cutting, listed_within (line_at s at))
