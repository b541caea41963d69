-- A cut is a line of kind 4 with the multiplier r on its last literal, and r times the last constraint's bound is at most the sum's:
-- so that an accepted one is satisfied by every window, by kind 4's argument.
-- Assumes nothing.
use mathlib.Core.Path.{◌≡◌, refl, sym, ◌∙◌, ap, fun_ext}
use mathlib.Core.Logic.{◌↔◌}
use mathlib.Core.List.{◌++◌}
use mathlib.Core.Bool.{Bool, true, false, cond, not, ◌&&◌}
use Prim.Native.Nat.{ℕ, zero, suc, ◌≤◌, ◌<◌}
use native.Mathlib.Nat.{le_refl}
use native.Mathlib.Omega.{arith}
use borrow.Author.Tests.{leb-true, le-leb, eqb-true, eqb-false, ne_eqb, eq-eqb, not-true}
use lib.Dec.{leb, eqb}
use lib.IntN.{ℤ, pos, neg_ℤ, ◌+ℤ◌, ◌-ℤ◌, ◌*ℤ◌}
use lib.Signed.{le_z, lt_z, ◌≤ℤ◌, ◌<ℤ◌}
use Rattle.std.proofs.Math.Bool.{and_assoc}
use Rattle.std.proofs.lemmas.Int.{ints}
use Rattle.integers.proofs.Diff.{zify, by_diff2}
use Rattle.integers.proofs.Order.{le_z_true, lt_z_true}
use Rattle.answers.specs.Checks.{every}
use Rattle.answers.proofs.Every.{every_all, every_of}
use Rattle.answers.proofs.Tests.{both_true, same_test}
use Rattle.constraints.specs.Layout.{Constraint, Line, used_in, listed_in}
use Rattle.constraints.specs.Linear.{Bounded, coefficient, scaled, negated, same_z}
use Rattle.constraints.proofs.Totals.{coefficient_append, coefficient_scaled}
use Rattle.literals.specs.Literals.{atom_of, is_negated, is_constraint, constraint_number}
use Rattle.rules.specs.Arithmetic.{is_multiplier, opposite_says, sum_of, arithmetic_ok}
use Rattle.rules.specs.Cuts.{others, last_ok, other_ok, is_cut, cut_to, others_sum, multiple_ok, rounded_ok, cut_ok, as_arithmetic}
use Rattle.rules.specs.Limited.{Named}
use Rattle.rules.specs.Satisfaction.{Valuation, Satisfies}
use Rattle.rules.proofs.ArithmeticLines.{arithmetic_satisfied}
use Rattle.rules.proofs.Contents.{same_means, same_test as same_number}
use Rattle.rules.proofs.Floors.{floor_test}

-- ---- whole numbers: what the last literal's opposite, times r, adds

-- to a coefficient
cancels : (r : ℕ) (a c : ℤ) → (pos r *ℤ (neg_ℤ (pos 1) *ℤ c) +ℤ a ≡ pos 0) ↔ (a ≡ pos r *ℤ c)
cancels r a c = grind (arith, ints)

zero_test : (r : ℕ) (a c : ℤ) → same_z (pos r *ℤ (neg_ℤ (pos 1) *ℤ c) +ℤ a) (pos 0) ≡ same_z a (pos r *ℤ c)
zero_test r a c =
    same_test (same_z (pos r *ℤ (neg_ℤ (pos 1) *ℤ c) +ℤ a) (pos 0)) (same_z a (pos r *ℤ c))
    (λ e. same_number a (pos r *ℤ c) ((cancels r a c).0 (same_means (pos r *ℤ (neg_ℤ (pos 1) *ℤ c) +ℤ a) (pos 0) e)))
    (λ e. same_number (pos r *ℤ (neg_ℤ (pos 1) *ℤ c) +ℤ a) (pos 0) ((cancels r a c).1 (same_means a (pos r *ℤ c) e)))

-- to a bound
exceeds : (r : ℕ) (b f : ℤ) → ((pos r *ℤ (neg_ℤ f -ℤ pos 1) +ℤ b) ≤ℤ neg_ℤ (pos 1)) ↔ (b <ℤ (pos r *ℤ f +ℤ pos r))
exceeds r = by_diff2 _ (λ p q s t. simp zify (omega arith))

bound_test : (r : ℕ) (b f : ℤ) → le_z (pos r *ℤ (neg_ℤ f -ℤ pos 1) +ℤ b) (neg_ℤ (pos 1)) ≡ lt_z b (pos r *ℤ f +ℤ pos r)
bound_test r b f =
    let low = pos r *ℤ (neg_ℤ f -ℤ pos 1) +ℤ b in
    let past = pos r *ℤ f +ℤ pos r in
    same_test (le_z low (neg_ℤ (pos 1))) (lt_z b past)
    (λ e. (lt_z_true b past).1 ((exceeds r b f).0 ((le_z_true low (neg_ℤ (pos 1))).0 e)))
    (λ e. (le_z_true low (neg_ℤ (pos 1))).1 ((exceeds r b f).1 ((lt_z_true b past).0 e)))

-- ---- what the literals and multipliers of a cut are

pub record CutFacts (line : Line) : Type 0 where
  pub some : listed_in line ≡ suc (others line)
  pub last_on : is_constraint (atom_of (line.literal (others line))) ≡ true
  pub last_sign : is_negated (line.literal (others line)) ≡ false
  pub last_multiplier : line.multiplier (others line) ≡ 0
  pub others_on : (j : ℕ) → j < others line → is_constraint (atom_of (line.literal j)) ≡ true
  pub multipliers : (j : ℕ) → j < others line → is_multiplier (line.multiplier j) ≡ true
  pub divisor : 1 ≤ line.head.r

pub cut_facts : (line : Line) → is_cut line ≡ true → CutFacts line
unfolding is_cut
cut_facts line e =
    let n = others line in
    let l = line.literal n in
    let m = line.multiplier n in
    let r = line.head.r in
    let ok : ℕ → Bool = λ j. other_ok (line.literal j) (line.multiplier j) in
    let a = both_true (leb 1 (listed_in line) && last_ok l m && every ok n && leb 1 r) (leb r 65535) e in
    let b = both_true (leb 1 (listed_in line) && last_ok l m && every ok n) (leb 1 r) a.0 in
    let c = both_true (leb 1 (listed_in line) && last_ok l m) (every ok n) b.0 in
    let d = both_true (leb 1 (listed_in line)) (last_ok l m) c.0 in
    let last = both_true (is_constraint (atom_of l) && not (is_negated l)) (eqb m 0) d.1 in
    let on = both_true (is_constraint (atom_of l)) (not (is_negated l)) last.0 in
    let each : (j : ℕ) → j < n → (is_constraint (atom_of (line.literal j)) ≡ true) × (is_multiplier (line.multiplier j) ≡ true) =
    λ j k. both_true (is_constraint (atom_of (line.literal j))) (is_multiplier (line.multiplier j)) (every_all ok n c.1 j k) in
    record {
      some = omega (arith, leb-true 1 (listed_in line) d.0);
      last_on = on.0;
      last_sign = not-true (is_negated l) on.1;
      last_multiplier = eqb-true m 0 last.1;
      others_on = λ j k. (each j k).0;
      multipliers = λ j k. (each j k).1;
      divisor = leb-true 1 r b.1;
    }

-- ---- the sum of all literals, the last one times r

module _ (constraints : ℕ → Constraint) where
  -- lines with the same first n literals and multipliers have the same sum of them
  same_sum : (line other : Line) (n : ℕ) → ((j : ℕ) → j < n → other.literal j ≡ line.literal j) → ((j : ℕ) → j < n → other.multiplier j ≡ line.multiplier j)
      → sum_of constraints other n ≡ sum_of constraints line n
  unfolding sum_of
  same_sum line other zero f g = refl
  same_sum line other (suc n) f g =
      rw (f n (le_refl (suc n)), g n (le_refl (suc n)), same_sum line other n (λ j l. f j (omega arith)) (λ j l. g j (omega arith)))

  -- a sum of one literal more, by what it adds
  sum_more : (line : Line) (j m : ℕ) (c rest : Bounded) → line.multiplier j ≡ m → opposite_says constraints (line.literal j) ≡ c → sum_of constraints line j ≡ rest
      → sum_of constraints line (suc j) ≡ record { form = scaled (pos m) c.form ++ rest.form; bound = pos m *ℤ c.bound +ℤ rest.bound }
  unfolding sum_of
  sum_more line j m c rest e f g = rw (e, f, g)

  module _ (line : Line) (facts : CutFacts line) where
    abbrev n : ℕ
    n = others line

    abbrev r : ℕ
    r = line.head.r

    abbrev last : Bounded
    last = cut_to constraints line

    abbrev sum : Bounded
    sum = others_sum constraints line

    pub others_sum_is : sum_of constraints (as_arithmetic line) n ≡ sum
    others_sum_is =
        same_sum line (as_arithmetic line) n (λ j l. refl)
        (λ j l. rw (ne_eqb (suc j) (listed_in line) (λ e. omega (arith, facts.some))))

    pub last_weight : (as_arithmetic line).multiplier n ≡ r
    last_weight = rw (eq-eqb (suc n) (listed_in line) (sym facts.some))

    abbrev whole : Bounded
    whole = sum_of constraints (as_arithmetic line) (listed_in line)

    -- the last literal's opposite is its constraint's negation
    last_says : opposite_says constraints (line.literal n) ≡ negated last
    last_says = ap (λ (b : Bool). cond b last (negated last)) facts.last_sign

    whole_is : whole ≡ record { form = scaled (pos r) (negated last).form ++ sum.form; bound = pos r *ℤ (negated last).bound +ℤ sum.bound }
    whole_is =
        ap (sum_of constraints (as_arithmetic line)) facts.some
        ∙ sum_more (as_arithmetic line) n r (negated last) sum last_weight last_says others_sum_is

    whole_coefficient : (x : ℕ) → coefficient whole.form x ≡ pos r *ℤ (neg_ℤ (pos 1) *ℤ coefficient last.form x) +ℤ coefficient sum.form x
    whole_coefficient x =
        ap (λ (c : Bounded). coefficient c.form x) whole_is
        ∙ coefficient_append x (scaled (pos r) (negated last).form) sum.form
        ∙ ap (λ (z : ℤ). z +ℤ coefficient sum.form x)
        (coefficient_scaled x (pos r) (negated last).form ∙ ap (λ (z : ℤ). pos r *ℤ z) (coefficient_scaled x (neg_ℤ (pos 1)) last.form))

    -- "each A is r times that constraint's coefficient": kind 4's sum is 0 at each variable
    pub zeros_test : every (λ x. same_z (coefficient whole.form x) (pos 0)) 576 ≡ multiple_ok constraints line
    zeros_test =
        ap (λ (ok : ℕ → Bool). every ok 576)
        (fun_ext λ x.
        ap (λ (z : ℤ). same_z z (pos 0)) (whole_coefficient x)
        ∙ zero_test r (coefficient sum.form x) (coefficient last.form x))

    -- "its bound is B divided by r, rounded toward minus infinity": kind 4's sum is at most −1, and B at least r times the bound
    rounded_test : rounded_ok constraints line ≡ (le_z whole.bound (neg_ℤ (pos 1)) && le_z (pos r *ℤ last.bound) sum.bound)
    rounded_test =
        floor_test r facts.divisor last.bound sum.bound
        ∙ ap (λ (b : Bool). b && le_z (pos r *ℤ last.bound) sum.bound)
        (sym (ap (λ (c : Bounded). le_z c.bound (neg_ℤ (pos 1))) whole_is ∙ bound_test r sum.bound last.bound))

    pub all_on_is : (j : ℕ) → j < listed_in line → is_constraint (atom_of (line.literal j)) ≡ true
    all_on_is j l = go (eqb j n) refl
      where
        go : (t : Bool) → eqb j n ≡ t → is_constraint (atom_of (line.literal j)) ≡ true
        go true e = rw (eqb-true j n e) facts.last_on
        go false e = facts.others_on j (omega (arith, facts.some, eqb-false j n e))

-- ---- the law

-- the multiplier on the last literal leaves the count as it is
pub same_count : (line : Line) → listed_in (as_arithmetic line) ≡ listed_in line
unfolding listed_in
same_count line = refl

module _ (constraints : ℕ → Constraint) (line : Line) where
  -- r times the bound is at most B
  abbrev pub is_low : Bool
  is_low = le_z (pos line.head.r *ℤ (cut_to constraints line).bound) (others_sum constraints line).bound

  as_arithmetic_is : CutFacts line → (arithmetic_ok constraints (as_arithmetic line) && is_low) ≡ (multiple_ok constraints line && rounded_ok constraints line)
  unfolding arithmetic_ok
  as_arithmetic_is facts =
      rw (
        same_count line,
        le-leb 1 (listed_in line) (omega (arith, facts.some)),
        every_of (λ j. is_constraint (atom_of (line.literal j))) (listed_in line) (all_on_is constraints line facts),
        zeros_test constraints line facts,
        rounded_test constraints line facts,
      )
      (and_assoc (multiple_ok constraints line) _ is_low)

  -- a cut is kind 4 with the multiplier r on the last literal, and r times the bound at most B
  pub cut_law : cut_ok constraints line ≡ (is_cut line && (arithmetic_ok constraints (as_arithmetic line) && is_low))
  unfolding cut_ok
  cut_law = go (is_cut line) refl
    where
      go : (t : Bool) → is_cut line ≡ t → (t && multiple_ok constraints line && rounded_ok constraints line) ≡ (t && (arithmetic_ok constraints (as_arithmetic line) && is_low))
      go true e = sym (as_arithmetic_is (cut_facts line e))
      go false e = refl

  pub record Accepted : Type 0 where
    pub cut : is_cut line ≡ true
    pub arithmetic : arithmetic_ok constraints (as_arithmetic line) ≡ true

  pub accepted : cut_ok constraints line ≡ true → Accepted
  accepted e =
      let both = both_true (is_cut line) (arithmetic_ok constraints (as_arithmetic line) && is_low) (sym cut_law ∙ e) in
      record { cut = both.0; arithmetic = (both_true (arithmetic_ok constraints (as_arithmetic line)) is_low both.1).0 }

-- ---- an accepted cut is satisfied

module _ (constraints : ℕ → Constraint) (w : Valuation) (line : Line) where
  abbrev on : ℕ → Constraint
  on j = constraints (constraint_number (atom_of (line.literal j)))

  pub cut_satisfied : cut_ok constraints line ≡ true → ((j : ℕ) → j < listed_in line → Named (on j) (used_in (on j))) → Satisfies constraints w line
  cut_satisfied e named =
      let same = same_count line in
      let s = arithmetic_satisfied constraints w (as_arithmetic line) (accepted constraints line e).arithmetic (λ j l. named j (omega (arith, same))) in
      record { which = s.which; listed = omega (arith, same, s.listed); holds = s.holds }
