-- One turn of each loop that adds: the sum fits a word, and is the sum of the whole numbers.
-- Assumes nothing.
use mathlib.Core.Path.{◌≡◌, sym, ◌∙◌, ap}
use mathlib.Core.List.{List}
use Prim.Native.Nat.{ℕ, zero, suc, ◌+◌, ◌*◌, ◌≤◌, ◌<◌}
use native.Mathlib.Nat.{le_refl}
use native.Mathlib.Omega.{arith}
use lib.IntN.{ℤ, pos, nat_abs, ◌+ℤ◌, ◌*ℤ◌}
use lib.ListN.{length, get_or, set, replicate, length-replicate, get_or-replicate}
use mir.Syntax.{w64}
use mir.Val.{SFits}
use mir.Facts.{to_z-of_z}
use Rattle.integers.proofs.Abs.{abs_fits, bound_add, bound_mul}
use Rattle.integers.proofs.Reading.{rd}
use Rattle.integers.proofs.Ring.{+ℤ_comm}
use Rattle.integers.proofs.Small.{small_sum_fits, small_sum}
use Rattle.constraints.specs.declared.layout.ConstraintHead.{ConstraintHead}
use Rattle.constraints.specs.Layout.{Constraint, Line, used_in, constraint_at, head_at, term_at, line_at, literal_at, multiplier_at, constraints_from}
use Rattle.constraints.specs.Linear.{variable, scaled, written}
use Rattle.constraints.proofs.Blocks.{used_is, used_few}
use Rattle.constraints.proofs.Weights.{weight, weight_append}
use Rattle.rules.specs.Arithmetic.{sum_of}
use Rattle.arithmetic.specs.Sums.{add_form, sums_of, place_of, factor_of, opposite_bound}
use Rattle.arithmetic.specs.Checkable.{Summable, Usable}
use Rattle.arithmetic.proofs.Adding.{entry_within, weight_terms, terms_more, sums_more, bound_suc, bound_more, form_more, opposite_within, abs_factor}

-- ---- one term of a constraint

-- the count as it was read
pub count_used : (s : List ℕ) (at : ℕ) → Summable s at → (h : ConstraintHead) → h ≡ head_at s at → h.count ≡ used_in (constraint_at s at)
count_used s at good h e =
    ap (λ (h : ConstraintHead). h.count) e ∙ sym (used_is (constraint_at s at) good.limited.few)

module _ (s : List ℕ) (at : ℕ) (good : Summable s at) (z : ℤ) (small : nat_abs z ≤ 1000000) (base : List ℤ)
    (sized : length base ≡ 576) (within : (x : ℕ) → x < 576 → nat_abs (get_or base x (pos 0)) ≤ 1000000000000000000)
    (new : List ℤ) (j x : ℕ) (v : ℤ) (l : j < used_in (constraint_at s at))
    (e : new ≡ add_form base (scaled z (written (constraint_at s at) j)))
    (f : x ≡ variable (term_at s at j).offset (term_at s at j).stream)
    (g : v ≡ z *ℤ (term_at s at j).coefficient) where
  pub in_array : x < 576
  in_array = rw f (good.limited.variables j l)

  so_far : nat_abs (get_or new x (pos 0)) ≤ 1008000000000000000
  so_far =
      let terms = scaled z (written (constraint_at s at) j) in
      let light : weight terms ≤ 8000000000000000 =
      weight_terms z (constraint_at s at) j small (omega (arith, used_few (constraint_at s at))) (λ i k. good.limited.coefficients i (omega arith)) in
      let now : nat_abs (get_or (add_form base terms) x (pos 0)) ≤ weight terms + 1000000000000000000 =
      entry_within base terms x 1000000000000000000 (rw sized in_array) (within x in_array) in
      rw e (omega arith)

  added : nat_abs v ≤ 1000000 * 1000000000
  added = rw g (bound_mul 1000000 1000000000 z (term_at s at j).coefficient small (good.limited.coefficients j l))

  pub term_fits : SFits w64 (rd w64 (get_or new x (pos 0)) +ℤ rd w64 v)
  term_fits = small_sum_fits w64 (get_or new x (pos 0)) v so_far added (omega arith)

  pub term_turn : set new x (rd w64 (rd w64 (get_or new x (pos 0)) +ℤ rd w64 v)) ≡ add_form base (scaled z (written (constraint_at s at) (j + 1)))
  term_turn =
      terms_more new base z (constraint_at s at) j x (rd w64 (rd w64 (get_or new x (pos 0)) +ℤ rd w64 v)) e f
      (small_sum w64 (get_or new x (pos 0)) v so_far added (omega arith) ∙ ap (λ (y : ℤ). get_or new x (pos 0) +ℤ y) g)

-- ---- one literal of a line

module _ (s : List ℕ) (start at : ℕ) where
  abbrev constraints : ℕ → Constraint
  constraints = constraints_from s start

  abbrev line : Line
  line = line_at s at

  pub forms_within : (n : ℕ) → ((j : ℕ) → j < n → Usable s start at j)
      → weight (sum_of constraints line n).form ≤ n * 8000000000000000
  unfolding sum_of
  forms_within zero u = le_refl 0
  forms_within (suc n) u =
      let good = u n (le_refl (suc n)) in
      let terms = scaled (factor_of (literal_at s at n) (multiplier_at s at n)) (written (constraint_at s (place_of s start at n)) (used_in (constraint_at s (place_of s start at n)))) in
      let more : weight (sum_of constraints line (suc n)).form ≡ weight terms + weight (sum_of constraints line n).form =
      ap weight (form_more constraints line n) ∙ weight_append terms (sum_of constraints line n).form in
      let light : weight terms ≤ 8000000000000000 =
      weight_terms (factor_of (literal_at s at n) (multiplier_at s at n)) (constraint_at s (place_of s start at n)) _
      (rw (abs_factor (literal_at s at n) (multiplier_at s at n)) good.multiplier)
      (used_few _) good.summable.limited.coefficients in
      omega (arith, more, forms_within n (λ j l. u j (omega arith)))

  -- the bound that literal j adds
  abbrev pub bound_added : ℕ → ℤ
  bound_added j = pos (multiplier_at s at j) *ℤ opposite_bound (literal_at s at j) (head_at s (place_of s start at j)).bound

  added_within : (j : ℕ) → Usable s start at j → nat_abs (bound_added j) ≤ 1000000 * 200000000000
  added_within j good =
      let b = (head_at s (place_of s start at j)).bound in
      let opposite : nat_abs (opposite_bound (literal_at s at j) b) ≤ 200000000000 =
      omega (arith, opposite_within (literal_at s at j) b, good.summable.limited.bound) in
      bound_mul 1000000 200000000000 (pos (multiplier_at s at j)) (opposite_bound (literal_at s at j) b) good.multiplier opposite

  pub bounds_within : (n : ℕ) → ((j : ℕ) → j < n → Usable s start at j)
      → nat_abs (sum_of constraints line n).bound ≤ n * 200000000000000000
  unfolding sum_of
  bounds_within zero u = le_refl 0
  bounds_within (suc n) u =
      let rest = (sum_of constraints line n).bound in
      let sum : nat_abs (bound_added n +ℤ rest) ≤ 1000000 * 200000000000 + n * 200000000000000000 =
      bound_add (1000000 * 200000000000) (n * 200000000000000000) (bound_added n) rest
      (added_within n (u n (le_refl (suc n)))) (bounds_within n (λ j l. u j (omega arith))) in
      let more : nat_abs (sum_of constraints line (suc n)).bound ≡ nat_abs (bound_added n +ℤ rest) =
      ap nat_abs (bound_suc constraints line n) in
      omega (arith, more, sum)

  module _ (n : ℕ) (few : n < 12) (u : (j : ℕ) → j ≤ n → Usable s start at j) (v bound : ℤ) (e : v ≡ bound_added n)
      (f : bound ≡ (sum_of constraints line n).bound) where
    v_small : nat_abs v ≤ 1000000 * 200000000000
    v_small = rw e (added_within n (u n (le_refl n)))

    bound_small : nat_abs bound ≤ 2400000000000000000
    bound_small = rw f (omega (arith, bounds_within n (λ j l. u j (omega arith))))

    v_read : rd w64 v ≡ v
    v_read = to_z-of_z (abs_fits w64 v (omega (arith, v_small)))

    pub bound_fits : SFits w64 (bound +ℤ rd w64 v)
    bound_fits =
        let sum = bound_add 2400000000000000000 (1000000 * 200000000000) bound v bound_small v_small in
        rw v_read (abs_fits w64 (bound +ℤ v) (omega (arith, sum)))

    pub bound_turn : rd w64 (bound +ℤ rd w64 v) ≡ (sum_of constraints line (n + 1)).bound
    bound_turn = to_z-of_z bound_fits ∙ rw (v_read, +ℤ_comm bound v, e, f) (sym (bound_more constraints line n))

  -- what `add_terms` asks of the sums so far
  pub sums_within : (n : ℕ) → n ≤ 12 → ((j : ℕ) → j < n → Usable s start at j)
      → (x : ℕ) → x < 576 → nat_abs (get_or (sums_of constraints line n) x (pos 0)) ≤ 1000000000000000000
  sums_within n few u x l =
      let f = (sum_of constraints line n).form in
      let zeros = replicate 576 (pos 0) in
      let zero : nat_abs (get_or zeros x (pos 0)) ≤ 0 = rw (get_or-replicate 576 x (pos 0) (pos 0) l) (le_refl 0) in
      let now : nat_abs (get_or (add_form zeros f) x (pos 0)) ≤ weight f + 0 =
      entry_within zeros f x 0 (rw (length-replicate 576 (pos 0)) l) zero in
      omega (arith, now, forms_within n u)

  -- a constraint's terms added to the sums so far
  pub literal_turn : (j : ℕ) (sums next : List ℤ) (place : ℕ) (factor : ℤ)
      → next ≡ add_form sums (scaled factor (written (constraint_at s place) (used_in (constraint_at s place))))
      → place ≡ place_of s start at j
      → factor ≡ factor_of (literal_at s at j) (multiplier_at s at j)
      → sums ≡ sums_of constraints line j
      → next ≡ sums_of constraints line (j + 1)
  literal_turn j sums next place factor e f g h = e ∙ rw (f, g, h) (sym (sums_more constraints line j))
