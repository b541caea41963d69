-- Each operator's clauses are true in a window where the stream has the value in its operator's row.
-- Assumes nothing.
use mathlib.Core.Path.{◌≡◌, refl, ◌∙◌}
use mathlib.Core.Logic.{◌⊎◌, inl, inr}
use mathlib.Core.List.{[], map}
use mathlib.Core.Bool.{Bool, true, false, cond, not, ◌&&◌, ◌||◌, beq}
use Prim.Native.Nat.{ℕ}
use native.Mathlib.Omega.{arith}
use borrow.Author.Tests.{not-false}
use lib.IntN.{ℤ, pos, neg_ℤ, ◌+ℤ◌, ◌-ℤ◌, ◌*ℤ◌}
use lib.Signed.{le_z}
use Rattle.integers.specs.Range.{lesser, greater}
use Rattle.std.proofs.lemmas.Int.{ints}
use Rattle.integers.proofs.Order.{le_z_self, le_z_total}
use Rattle.node.specs.declared.equation.StreamType.{StreamType}
use Rattle.node.specs.declared.equation.StreamType.TheVariants.{Bool as BoolType, Int as IntType}
use Rattle.node.specs.declared.equation.Equation.{Equation}
use Rattle.node.specs.declared.equation.Equation.TheVariants.{Input, Constant, Not, And, Or, Same, Sum, Difference, Multiple, AtMost, Equal, If, Arrow, FollowedBy, Lesser, Greater}
use Rattle.node.specs.declared.table.Limit.TheVariants.{Value}
use Rattle.node.specs.Reads.{All, row_for, reads, InRange, ConstantOk}
use Rattle.node.specs.Table.{row_of}
use Rattle.node.proofs.Needs.{all_append}
use Rattle.streams.specs.Meaning.{meaning}
use Rattle.streams.specs.Values.{number, truth, equals, Values}
use Rattle.streams.proofs.Numbers.{truth_number, zero_or_one}
use Rattle.rules.specs.declared.pattern.Position.{Position}
use Rattle.rules.specs.declared.pattern.Position.TheVariants.{Opening, Entry, Inner}
use Rattle.rules.specs.declared.pattern.Pattern.TheVariants.{Yes, No}
use Rattle.rules.specs.Clauses.{clauses, same_as, guarded}
use Rattle.rules.specs.Satisfaction.{Valuation, pattern_true, clause_true}
use Rattle.rules.specs.Versions.{Version}
use Rattle.rules.proofs.ClauseForms.{AllTrue, most_is, less_is, same_true, guarded_same, equal_true}

-- ---- the sums of rows 1 and 6 to 8, as a·x + b·y + k

constant_sum : (k z : ℤ) → k ≡ pos 0 *ℤ z +ℤ pos 0 *ℤ z +ℤ k
constant_sum k z = omega (arith, ints)

plain_sum : (x y : ℤ) → x +ℤ y ≡ pos 1 *ℤ x +ℤ pos 1 *ℤ y +ℤ pos 0
plain_sum x y = omega (arith, ints)

difference_sum : (x y : ℤ) → x -ℤ y ≡ pos 1 *ℤ x +ℤ neg_ℤ (pos 1) *ℤ y +ℤ pos 0
difference_sum x y = omega (arith, ints)

multiple_sum : (k x : ℤ) → k *ℤ x ≡ k *ℤ x +ℤ pos 0 *ℤ x +ℤ pos 0
multiple_sum k x = omega (arith, ints)

-- what a place says of the instant, and of the operands one instant before
abbrev pub PastAt : Version → Position → (first : Bool) → (past : Values) → (w : Valuation) → (back : ℕ → ℕ) → Equation → Type 0
PastAt version Opening first past w back e = first ≡ true
PastAt version Entry first past w back e = version.after ≡ true → first ≡ false
PastAt version Inner first past w back e = (first ≡ false) × All (λ r. past r.stream ≡ w (back r.stream)) (reads e)

module _ (version : Version) (w : Valuation) (now back : ℕ → ℕ) (s : ℕ) (ty : StreamType) (place : Position) (input : ℤ) (first : Bool) (past : Values) where
  -- stream s has the value in the row of e
  abbrev RowOf : Equation → Type 0
  RowOf e = w s ≡ meaning e input first past (λ x. w (now x))

  -- its clauses are true
  abbrev Hold : Equation → Type 0
  Hold e = AllTrue w (clauses version ty e place now back s)

  -- a stream that is 1 or 0 by a test
  told : (b : Bool) → w s ≡ number b → truth (w s) ≡ b
  told b e = rw e (truth_number b)

  equal_told : (a b : ℕ) → RowOf (Equal a b) → truth (w s) ≡ (le_z (w (now a)) (w (now b)) && le_z (w (now b)) (w (now a)))
  unfolding equals
  equal_told a b row = told (le_z (w (now a)) (w (now b)) && le_z (w (now b)) (w (now a))) row

  -- ---- rows 2 to 5: by the truth of each operand

  not-true : (a : ℕ) → truth (w s) ≡ not (truth (w (now a))) → Hold (Not a)
  unfolding clause_true pattern_true
  not-true a row = go (truth (w (now a))) refl
    where
      go : (x : Bool) → truth (w (now a)) ≡ x → Hold (Not a)
      go true e = rw (row, e) (refl, (refl, tt))
      go false e = rw (row, e) (refl, (refl, tt))

  and_true : (a b : ℕ) → truth (w s) ≡ (truth (w (now a)) && truth (w (now b))) → Hold (And a b)
  unfolding clause_true pattern_true
  and_true a b row = go (truth (w (now a))) (truth (w (now b))) refl refl
    where
      go : (x y : Bool) → truth (w (now a)) ≡ x → truth (w (now b)) ≡ y → Hold (And a b)
      go true true e f = rw (row, e, f) (refl, (refl, (refl, tt)))
      go true false e f = rw (row, e, f) (refl, (refl, (refl, tt)))
      go false y e f = rw (row, e) (refl, (refl, (refl, tt)))

  or_true : (a b : ℕ) → truth (w s) ≡ (truth (w (now a)) || truth (w (now b))) → Hold (Or a b)
  unfolding clause_true pattern_true
  or_true a b row = go (truth (w (now a))) (truth (w (now b))) refl refl
    where
      go : (x y : Bool) → truth (w (now a)) ≡ x → truth (w (now b)) ≡ y → Hold (Or a b)
      go true y e f = rw (row, e) (refl, (refl, (refl, tt)))
      go false true e f = rw (row, e, f) (refl, (refl, (refl, tt)))
      go false false e f = rw (row, e, f) (refl, (refl, (refl, tt)))

  same_as_true : (a b : ℕ) → truth (w s) ≡ beq (truth (w (now a))) (truth (w (now b))) → Hold (Same a b)
  unfolding clause_true pattern_true
  same_as_true a b row = go (truth (w (now a))) (truth (w (now b))) refl refl
    where
      go : (x y : Bool) → truth (w (now a)) ≡ x → truth (w (now b)) ≡ y → Hold (Same a b)
      go true true e f = rw (row, e, f) (refl, (refl, (refl, (refl, tt))))
      go true false e f = rw (row, e, f) (refl, (refl, (refl, (refl, tt))))
      go false true e f = rw (row, e, f) (refl, (refl, (refl, (refl, tt))))
      go false false e f = rw (row, e, f) (refl, (refl, (refl, (refl, tt))))

  -- ---- rows 9 and 10: by the order of the operands

  at_most_true : (a b : ℕ) → truth (w s) ≡ le_z (w (now a)) (w (now b)) → Hold (AtMost a b)
  unfolding clause_true pattern_true
  at_most_true a b row = go (le_z (w (now a)) (w (now b))) refl
    where
      go : (x : Bool) → le_z (w (now a)) (w (now b)) ≡ x → Hold (AtMost a b)
      go true e = simp (most_is w, less_is w, row, e) (refl, (refl, tt))
      go false e = simp (most_is w, less_is w, row, e) (refl, (refl, tt))

  equal_to_true : (a b : ℕ) → truth (w s) ≡ (le_z (w (now a)) (w (now b)) && le_z (w (now b)) (w (now a))) → Hold (Equal a b)
  unfolding clause_true pattern_true
  equal_to_true a b row = go (le_z (w (now a)) (w (now b))) (le_z (w (now b)) (w (now a))) refl refl
    where
      go : (x y : Bool) → le_z (w (now a)) (w (now b)) ≡ x → le_z (w (now b)) (w (now a)) ≡ y → Hold (Equal a b)
      go true true e f = simp (most_is w, less_is w, row, e, f) (refl, (refl, (refl, tt)))
      go true false e f = simp (most_is w, less_is w, row, e, f) (refl, (refl, (refl, tt)))
      go false true e f = simp (most_is w, less_is w, row, e, f) (refl, (refl, (refl, tt)))
      go false false e f = simp (most_is w, less_is w, row, e, f) (refl, (refl, (refl, tt)))

  -- ---- row 1: a bool constant is 0 or 1

  constant_true_is : (own : StreamType) (k : ℤ) → InRange Value own k → w s ≡ k → AllTrue w (clauses version own (Constant k) place now back s)
  unfolding clause_true pattern_true
  constant_true_is BoolType k fits row = go (zero_or_one k fits)
    where
      go : (k ≡ pos 0) ⊎ (k ≡ pos 1) → AllTrue w (clauses version BoolType (Constant k) place now back s)
      go (inl e) = rw (e, row ∙ e, truth_number false) (refl, tt)
      go (inr e) = rw (e, row ∙ e, truth_number true) (refl, tt)
  constant_true_is IntType k fits row = equal_true w s (pos 0) s (pos 0) s k (row ∙ constant_sum k (w s))

  -- ---- rows 11 to 13: equal to one of two streams

  if_true : (a b c : ℕ) → RowOf (If c a b) → Hold (If c a b)
  unfolding pattern_true
  if_true a b c row =
      all_append _ (map (guarded (No (now c))) (same_as ty s (now a))) (map (guarded (Yes (now c))) (same_as ty s (now b)))
      (guarded_same w ty (No (now c)) s (now a) (λ e. row ∙ rw (not-false (truth (w (now c))) e)))
      (guarded_same w ty (Yes (now c)) s (now b) (λ e. row ∙ rw e))

  arrow_true : (a b : ℕ) (at : Position) → PastAt version at first past w back (Arrow a b) → RowOf (Arrow a b) → AllTrue w (clauses version ty (Arrow a b) at now back s)
  arrow_true a b Opening p row = same_true w ty s (now a) (row ∙ rw p)
  arrow_true a b Entry p row = go version.after p
    where
      go : (t : Bool) → (t ≡ true → first ≡ false) → AllTrue w (cond t (same_as ty s (now b)) [])
      go true q = same_true w ty s (now b) (row ∙ rw (q refl))
      go false q = tt
  arrow_true a b Inner p row = same_true w ty s (now b) (row ∙ rw p.0)

  followed_true : (a b : ℕ) (at : Position) → PastAt version at first past w back (FollowedBy a b) → RowOf (FollowedBy a b) → AllTrue w (clauses version ty (FollowedBy a b) at now back s)
  unfolding row_of row_for reads
  followed_true a b Opening p row = same_true w ty s (now a) (row ∙ rw p)
  followed_true a b Entry p row = tt
  followed_true a b Inner p row = same_true w ty s (back b) (row ∙ rw p.0 p.1.1.0)

  -- ---- rows 14 and 15: by the order of the operands

  lesser_true : (a b : ℕ) → RowOf (Lesser a b) → Hold (Lesser a b)
  unfolding clause_true lesser
  lesser_true a b row = go (le_z (w (now a)) (w (now b))) refl
    where
      go : (x : Bool) → le_z (w (now a)) (w (now b)) ≡ x → Hold (Lesser a b)
      go true e = simp (most_is w, row, e, le_z_self (w (now a))) (refl, (refl, (refl, tt)))
      go false e = simp (most_is w, row, e, le_z_self (w (now b)), le_z_total (w (now a)) (w (now b)) e) (refl, (refl, (refl, tt)))

  greater_true : (a b : ℕ) → RowOf (Greater a b) → Hold (Greater a b)
  unfolding clause_true greater
  greater_true a b row = go (le_z (w (now a)) (w (now b))) refl
    where
      last : (x : Bool) → (x || true || false) ≡ true
      last true = refl
      last false = refl

      go : (x : Bool) → le_z (w (now a)) (w (now b)) ≡ x → Hold (Greater a b)
      go true e = simp (most_is w, row, e, le_z_self (w (now b))) (refl, (refl, (last (le_z (w (now b)) (w (now a))), tt)))
      go false e = simp (most_is w, row, e, le_z_self (w (now a)), le_z_total (w (now a)) (w (now b)) e) (refl, (refl, (refl, tt)))

  -- all sixteen
  pub clauses_true : (e : Equation) → ConstantOk ty e → PastAt version place first past w back e → RowOf e → Hold e
  unfolding row_of row_for
  clauses_true Input k p row = tt
  clauses_true (Constant z) k p row = constant_true_is ty z k row
  clauses_true (Not a) k p row = not-true a (told (not (truth (w (now a)))) row)
  clauses_true (And a b) k p row = and_true a b (told (truth (w (now a)) && truth (w (now b))) row)
  clauses_true (Or a b) k p row = or_true a b (told (truth (w (now a)) || truth (w (now b))) row)
  clauses_true (Same a b) k p row = same_as_true a b (told (beq (truth (w (now a))) (truth (w (now b)))) row)
  clauses_true (Sum a b) k p row =
      equal_true w s (pos 1) (now a) (pos 1) (now b) (pos 0) (row ∙ plain_sum (w (now a)) (w (now b)))
  clauses_true (Difference a b) k p row =
      equal_true w s (pos 1) (now a) (neg_ℤ (pos 1)) (now b) (pos 0) (row ∙ difference_sum (w (now a)) (w (now b)))
  clauses_true (Multiple z a) k p row =
      equal_true w s z (now a) (pos 0) (now a) (pos 0) (row ∙ multiple_sum z (w (now a)))
  clauses_true (AtMost a b) k p row = at_most_true a b (told (le_z (w (now a)) (w (now b))) row)
  clauses_true (Equal a b) k p row = equal_to_true a b (equal_told a b row)
  clauses_true (If c a b) k p row = if_true a b c row
  clauses_true (Arrow a b) k p row = arrow_true a b place p row
  clauses_true (FollowedBy a b) k p row = followed_true a b place p row
  clauses_true (Lesser a b) k p row = lesser_true a b row
  clauses_true (Greater a b) k p row = greater_true a b row
