-- The sums of a line: the array holds each variable's coefficient, and each sum is small, however far it has come.
-- Assumes nothing.
use mathlib.Core.Path.{◌≡◌, refl, sym, ◌∙◌, ap}
use mathlib.Core.List.{List, [], ◌∷◌, ◌++◌}
use mathlib.Core.Bool.{Bool, true, false, cond}
use Prim.Native.Nat.{ℕ, suc, ◌+◌, ◌*◌, ◌≤◌, ◌<◌}
use native.Mathlib.Nat.{le_refl, mul-le-mul}
use native.Mathlib.Numerals.{add-one}
use native.Mathlib.Omega.{arith}
use borrow.Author.Tests.{eqb-true, eqb-false}
use lib.Dec.{eqb}
use lib.IntN.{ℤ, pos, neg_ℤ, nat_abs, ◌+ℤ◌, ◌-ℤ◌, ◌*ℤ◌}
use lib.ListN.{length, get_or, set, replicate, length-set, length-replicate, get_or-replicate}
use lib.Seq.{get_or-set_same, get_or-set_other}
use Rattle.integers.proofs.Ring.{+ℤ_idl, +ℤ_idr, +ℤ_comm, +ℤ_assoc, *ℤ-assoc, *ℤ-idr, *ℤ-negℤ}
use Rattle.integers.proofs.Abs.{abs_negℤ, bound_add, bound_sub}
use Rattle.constraints.specs.Layout.{Constraint, Line, used_in}
use Rattle.constraints.specs.Linear.{Monomial, Form, Bounded, variable, coefficient, scaled, negated, written, bounded_of}
use Rattle.constraints.proofs.Weights.{weight, coefficient_within, weight_scaled, weight_written}
use Rattle.literals.specs.Literals.{atom_of, is_negated, constraint_number}
use Rattle.rules.specs.Arithmetic.{sum_of}
use Rattle.arithmetic.specs.Sums.{add_at, add_form, sums_of, factor_of, opposite_bound}

-- ---- a form added to an array

module _ (sums : List ℤ) where
  pub length_add_form : (f : Form) → length (add_form sums f) ≡ length sums
  unfolding add_form
  length_add_form [] = refl
  length_add_form (m ∷ ms) = simp length-set (length_add_form ms)

  pub add_form_append : (f g : Form) → add_form sums (f ++ g) ≡ add_form (add_form sums g) f
  unfolding add_form
  add_form_append [] g = refl
  add_form_append (m ∷ ms) g = ap (λ (l : List ℤ). add_at l m.of m.times) (add_form_append ms g)

-- a and b exchanged in a sum of three
turned : (a b c : ℤ) → (b +ℤ c) +ℤ a ≡ (a +ℤ b) +ℤ c
turned a b c = +ℤ_comm (b +ℤ c) a ∙ sym (+ℤ_assoc a b c)

-- one monomial more, at an entry that holds `rest` and what was there
entry_more : (l : List ℤ) (m : Monomial) (rest was : ℤ) (x : ℕ) → x < length l → get_or l x (pos 0) ≡ rest +ℤ was
    → (t : Bool) → eqb m.of x ≡ t
    → get_or (add_at l m.of m.times) x (pos 0) ≡ cond t (m.times +ℤ rest) rest +ℤ was
entry_more l m rest was x h e true t =
    let same = eqb-true m.of x t in
    rw (same, get_or-set_same l x _ (pos 0) h, e) (turned m.times rest was)
entry_more l m rest was x h e false t =
    get_or-set_other l m.of x _ (pos 0) (λ p. eqb-false m.of x t (sym p)) ∙ e

-- each entry gains the form's coefficient
pub entry : (l : List ℤ) (f : Form) (x : ℕ) → x < length l
    → get_or (add_form l f) x (pos 0) ≡ coefficient f x +ℤ get_or l x (pos 0)
unfolding add_form
entry l [] x h = sym (+ℤ_idl _)
entry l (m ∷ ms) x h =
    entry_more (add_form l ms) m (coefficient ms x) (get_or l x (pos 0)) x (rw (length_add_form l ms) h) (entry l ms x h)
    (eqb m.of x) refl

pub entry_within : (l : List ℤ) (f : Form) (x n : ℕ) → x < length l → nat_abs (get_or l x (pos 0)) ≤ n
    → nat_abs (get_or (add_form l f) x (pos 0)) ≤ weight f + n
entry_within l f x n h k =
    rw (entry l f x h) (bound_add (weight f) n (coefficient f x) (get_or l x (pos 0)) (coefficient_within f x) k)

-- ---- the opposite of a literal, times a multiplier

pub scaled_scaled : (a b : ℤ) (f : Form) → scaled a (scaled b f) ≡ scaled (a *ℤ b) f
scaled_scaled a b [] = refl
scaled_scaled a b (m ∷ ms) = rw (scaled_scaled a b ms, *ℤ-assoc a b m.times)

form_by_sign : (c : Bounded) (m : ℕ) (t : Bool) → scaled (pos m) (cond t c (negated c)).form ≡ scaled (cond t (pos m) (neg_ℤ (pos m))) c.form
form_by_sign c m true = refl
form_by_sign c m false =
    scaled_scaled (pos m) (neg_ℤ (pos 1)) c.form ∙ ap (λ (z : ℤ). scaled z c.form) (*ℤ-negℤ (pos m) (pos 1) ∙ ap neg_ℤ (*ℤ-idr (pos m)))

bound_by_sign : (c : Bounded) (t : Bool) → (cond t c (negated c)).bound ≡ cond t c.bound (neg_ℤ c.bound -ℤ pos 1)
bound_by_sign c true = refl
bound_by_sign c false = refl

opposite_by_sign : (b : ℤ) (t : Bool) → nat_abs (cond t b (neg_ℤ b -ℤ pos 1)) ≤ nat_abs b + 1
opposite_by_sign b true = omega arith
opposite_by_sign b false = bound_sub (nat_abs b) 1 (neg_ℤ b) (pos 1) (rw (abs_negℤ b) (le_refl (nat_abs b))) (le_refl 1)

pub opposite_within : (l : ℕ) (b : ℤ) → nat_abs (opposite_bound l b) ≤ nat_abs b + 1
unfolding opposite_bound
opposite_within l b = opposite_by_sign b (is_negated l)

factor_by_sign : (m : ℕ) (t : Bool) → nat_abs (cond t (pos m) (neg_ℤ (pos m))) ≡ m
factor_by_sign m true = refl
factor_by_sign m false = abs_negℤ (pos m)

pub abs_factor : (l m : ℕ) → nat_abs (factor_of l m) ≡ m
unfolding factor_of
abs_factor l m = factor_by_sign m (is_negated l)

-- ---- the turns of the two loops

-- a constraint's terms, times a factor
pub weight_terms : (z : ℤ) (c : Constraint) (n : ℕ) → nat_abs z ≤ 1000000 → n ≤ 8
    → ((j : ℕ) → j < n → nat_abs (c.term j).coefficient ≤ 1000000000)
    → weight (scaled z (written c n)) ≤ 8000000000000000
weight_terms z c n h k w =
    let least : weight (written c n) ≤ 8000000000 = omega (arith, weight_written c n w) in
    let product : nat_abs z * weight (written c n) ≤ 1000000 * 8000000000 = mul-le-mul h least in
    rw (weight_scaled z (written c n)) product

-- one term more
pub terms_more : (l base : List ℤ) (z : ℤ) (c : Constraint) (j x : ℕ) (v : ℤ)
    → l ≡ add_form base (scaled z (written c j))
    → x ≡ variable (c.term j).offset (c.term j).stream
    → v ≡ get_or l x (pos 0) +ℤ z *ℤ (c.term j).coefficient
    → set l x v ≡ add_form base (scaled z (written c (j + 1)))
unfolding add_form written
terms_more l base z c j x v e f g = rw (g, f, e, add-one)

module _ (constraints : ℕ → Constraint) (line : Line) where
  -- the constraint of a literal, and what it is multiplied by
  abbrev pub on : ℕ → Constraint
  on j = constraints (constraint_number (atom_of (line.literal j)))

  abbrev pub factor : ℕ → ℤ
  factor j = factor_of (line.literal j) (line.multiplier j)

  -- one literal more
  pub form_more : (j : ℕ) → (sum_of constraints line (suc j)).form ≡ scaled (factor j) (written (on j) (used_in (on j))) ++ (sum_of constraints line j).form
  unfolding sum_of factor_of
  form_more j =
      ap (λ (f : Form). f ++ (sum_of constraints line j).form)
      (form_by_sign (bounded_of (on j)) (line.multiplier j) (is_negated (line.literal j)))

  pub sums_more : (j : ℕ) → sums_of constraints line (j + 1) ≡ add_form (sums_of constraints line j) (scaled (factor j) (written (on j) (used_in (on j))))
  sums_more j = rw (add-one, form_more j) (add_form_append (replicate 576 (pos 0)) _ _)

  pub bound_suc : (j : ℕ)
      → (sum_of constraints line (suc j)).bound
      ≡ pos (line.multiplier j) *ℤ opposite_bound (line.literal j) (on j).head.bound +ℤ (sum_of constraints line j).bound
  unfolding sum_of opposite_bound
  bound_suc j = rw (bound_by_sign (bounded_of (on j)) (is_negated (line.literal j)))

  pub bound_more : (j : ℕ)
      → (sum_of constraints line (j + 1)).bound
      ≡ pos (line.multiplier j) *ℤ opposite_bound (line.literal j) (on j).head.bound +ℤ (sum_of constraints line j).bound
  bound_more j = rw add-one (bound_suc j)

  -- the array holds the coefficients
  pub sums_are : (n x : ℕ) → x < 576
      → get_or (sums_of constraints line n) x (pos 0) ≡ coefficient (sum_of constraints line n).form x
  sums_are n x l =
      let f = (sum_of constraints line n).form in
      entry (replicate 576 (pos 0)) f x (rw (length-replicate 576 (pos 0)) l)
      ∙ ap (λ (z : ℤ). coefficient f x +ℤ z) (get_or-replicate 576 x (pos 0) (pos 0) l)
      ∙ +ℤ_idr (coefficient f x)

  pub length_sums : (n : ℕ) → length (sums_of constraints line n) ≡ 576
  length_sums n = length_add_form (replicate 576 (pos 0)) (sum_of constraints line n).form ∙ length-replicate 576 (pos 0)

  pub sums_long : (sums : List ℤ) (n : ℕ) → sums ≡ sums_of constraints line n → length sums ≡ 576
  sums_long sums n e = rw e (length_sums n)
