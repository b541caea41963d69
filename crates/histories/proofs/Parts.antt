-- The instants of a history lie within it; the bad input of the earliest instant, one instant more at a time.
-- Assumes nothing.
use mathlib.Core.Path.{◌≡◌, refl, sym, ◌∙◌, ap, ap₂, subst}
use mathlib.Core.Logic.{◌⊎◌, inl, inr}
use mathlib.Core.Bool.{Bool, true, false, not, cond, ◌&&◌, ◌||◌, true≢false, false≢true}
use mathlib.Core.List.{List}
use Prim.Native.Nat.{ℕ, zero, suc, ◌+◌, ◌-◌, ◌*◌, ◌/◌, ◌<◌, ◌≤◌, min}
use native.Mathlib.Nat.{mul-le-mul_right, mul_comm, mul-zero, div-lt_iff_lt-mul, le-div_iff_mul-le, eq-or-lt_of_le, le_of_suc-le-suc, min-eq_left, min-le_left}
use native.Mathlib.Omega.{arith}
use borrow.Author.Tests.{eq-eqb, ne_eqb, eqb-true, eqb-false, ltb-true, ltb-false}
use lib.Dec.{eqb, ltb}
use lib.IntN.{ℤ, pos}
use lib.ListN.{length, take, drop, length-take, length-drop, get_or, set, get_or-eq_default}
use lib.Seq.{get_or-set_same, get_or-set_other}
use Rattle.answers.specs.Answer.{is_accepted}
use Rattle.answers.specs.Checks.{lowest}
use Rattle.answers.proofs.Lowest.{none}
use Rattle.node.specs.declared.equation.StreamType.{StreamType}
use Rattle.node.specs.declared.equation.StreamType.TheVariants.{Bool as BoolType, Int as IntType}
use Rattle.node.specs.Equations.{type_at}
use Rattle.node.specs.Inputs.{is_input, inputs_below, input_count}
use Rattle.node.specs.Layout.{streams_of, records_of}
use Rattle.node.specs.Verdict.{verdict_of}
use Rattle.node.proofs.Notes.{accepted_sizes}
use Rattle.node.proofs.Outcomes.{is_accepted_is}
use Rattle.streams.specs.Instant.{input_fits}
use Rattle.streams.specs.Typing.{fits_test}
use Rattle.streams.specs.Values.{values_in}
use Rattle.histories.specs.Marks.{is_bool, MarksBools, MarkedFit}
use Rattle.histories.specs.History.{inputs_at, count_ok, bad_at, earlier, bad_input}
use Rattle.std.specs.Prelude.{None, Option, Some}

-- ---- 31

module _ (count m : ℕ) (inputs : List ℤ) where
  pub counted : length inputs ≡ count * m → count_ok count m inputs ≡ true
  unfolding count_ok
  counted e = eq-eqb _ _ e

  pub is_count : count_ok count m inputs ≡ true → length inputs ≡ count * m
  unfolding count_ok
  is_count e = eqb-true _ _ e

  -- the three ways out of its test
  pub without : m ≡ 0 → eqb (length inputs) 0 ≡ count_ok count m inputs
  unfolding count_ok
  without e = ap (eqb (length inputs)) (rw e (sym (mul-zero count)))

  pub too_few : (m ≡ 0 → ⊥) → length inputs / m < count → count_ok count m inputs ≡ false
  unfolding count_ok
  too_few some l =
      let h = (div-lt_iff_lt-mul {k = m} {x = length inputs} {y = count} (omega arith)).0 l in
      ne_eqb _ _ (λ (e : length inputs ≡ count * m). omega (arith, e, h))

  pub product_fits : (m ≡ 0 → ⊥) → count ≤ length inputs / m → count * m ≤ length inputs
  product_fits some enough = (le-div_iff_mul-le {k = m} {x = count} {y = length inputs} (omega arith)).0 enough

-- ---- an instant's inputs

pub part_is : (m t : ℕ) (inputs : List ℤ) → take (m * t + m - m * t) (drop (m * t) inputs) ≡ inputs_at m inputs t
unfolding inputs_at
part_is m t inputs = let e : m * t + m - m * t ≡ m = omega arith in rw e refl

-- instant t of a history lies within it
pub within : (count m t size : ℕ) → size ≡ count * m → t < count → m * t + m ≤ size
within count m t size e l =
    let h : suc t * m ≤ count * m = mul-le-mul_right m l in
    omega (arith, e, h, mul_comm m t)

pub part_few : (m : ℕ) (inputs : List ℤ) (t : ℕ) → length (inputs_at m inputs t) ≤ m
unfolding inputs_at
part_few m inputs t = rw (length-take m (drop (m * t) inputs)) (min-le_left m (length (drop (m * t) inputs)))

-- .. and has m inputs
pub part_count : (count m : ℕ) (inputs : List ℤ) (t : ℕ) → length inputs ≡ count * m → t < count → length (inputs_at m inputs t) ≡ m
unfolding inputs_at
part_count count m inputs t e l =
    let w = within count m t (length inputs) e l in
    length-take m (drop (m * t) inputs) ∙ ap (min m) (length-drop (m * t) inputs) ∙ min-eq_left (omega arith)

-- ---- 33

pub bad_is : (file : List ℕ) (inputs : List ℤ) (m t : ℕ) (part : List ℤ) (f : Option ℕ) → is_accepted (verdict_of file) ≡ true → m ≡ input_count file → part ≡ inputs_at m inputs t → f ≡ lowest (input_fits file part) (records_of file) → f ≡ bad_at file inputs t
bad_is file inputs m t part f ok count is e =
    e
    ∙ ap₂ (λ (l : List ℤ) (n : ℕ). lowest (input_fits file l) n) (is ∙ ap (λ (k : ℕ). inputs_at k inputs t) count) (accepted_sizes file (is_accepted_is file ok)).records

-- where the marked numbers are 0 or 1, nothing is bad
module _ (file : List ℕ) (inputs : List ℤ) (m t : ℕ) (marks : List Bool) (count : m ≡ input_count file) (marked : MarksBools file (streams_of file) marks) where
  pub none_bad : (part : List ℤ) → part ≡ inputs_at m inputs t → MarkedFit marks part (length part) → bad_at file inputs t ≡ None
  unfolding input_fits
  none_bad part is fit =
      none (input_fits file (inputs_at (input_count file) inputs t)) (streams_of file)
      (subst (λ (l : List ℤ). (i : ℕ) → i < streams_of file → input_fits file l i ≡ true) (is ∙ ap (λ (k : ℕ). inputs_at k inputs t) count) each_fits)
    where
      nought : (z : ℤ) → z ≡ pos 0 → fits_test BoolType z ≡ true
      nought z e = rw e refl

      number_fits : (j : ℕ) → get_or marks j false ≡ true → (b : Bool) → ltb j (length part) ≡ b → fits_test BoolType (values_in part j) ≡ true
      number_fits j e true l = fit j (ltb-true j (length part) l) e
      number_fits j e false l = nought _ (get_or-eq_default part (pos 0) (ltb-false j (length part) l))

      by_type : (i : ℕ) → (ty : StreamType) → (is_bool ty ≡ true → get_or marks (inputs_below file i) false ≡ true) → fits_test ty (values_in part (inputs_below file i)) ≡ true
      by_type i BoolType mark = number_fits (inputs_below file i) (mark refl) (ltb (inputs_below file i) (length part)) refl
      by_type i IntType mark = refl

      each_fits : (i : ℕ) → i < streams_of file → (not (is_input file i) || fits_test (type_at file i) (values_in part (inputs_below file i))) ≡ true
      each_fits i l = go (is_input file i) refl
        where
          go : (b : Bool) → is_input file i ≡ b → (not b || fits_test (type_at file i) (values_in part (inputs_below file i))) ≡ true
          go true e = by_type i (type_at file i) (marked i l e)
          go false e = refl

module _ (file : List ℕ) (inputs : List ℤ) where
  pub none_more : (k : ℕ) → bad_input file inputs k ≡ None → bad_at file inputs k ≡ None → bad_input file inputs (suc k) ≡ None
  unfolding bad_input
  none_more k e f = rw (e, f) refl

  pub found : (k i : ℕ) → bad_input file inputs k ≡ None → bad_at file inputs k ≡ Some i → bad_input file inputs (suc k) ≡ Some i
  unfolding bad_input
  found k i e f = rw (e, f) refl

  -- what is found stays
  pub found_stays : (k i n : ℕ) → k ≤ n → bad_input file inputs k ≡ Some i → bad_input file inputs n ≡ Some i
  unfolding bad_input
  found_stays k i zero l e = let z : k ≡ 0 = omega arith in rw z at e
  found_stays k i (suc n) l e = go (eq-or-lt_of_le l) (λ m. found_stays k i n m e)
    where
      go : (k ≡ suc n) ⊎ (k < suc n) → (k ≤ n → bad_input file inputs n ≡ Some i) → bad_input file inputs (suc n) ≡ Some i
      go (inl p) below = rw p at e
      go (inr m) below = rw (below (le_of_suc-le-suc m)) refl

  none_of : (f g : Option ℕ) → earlier f g ≡ None → (f ≡ None) × (g ≡ None)
  none_of (Some i) g e = absurd (let z : ◌≡◌ {A = ℕ} 0 1 = cc in omega arith)
  none_of None g e = (refl, e)

  pub each : (k : ℕ) → bad_input file inputs k ≡ None → (t : ℕ) → t < k → bad_at file inputs t ≡ None
  unfolding bad_input
  each zero e t l = absurd (omega (arith, l))
  each (suc k) e t l = go (eq-or-lt_of_le (le_of_suc-le-suc l)) (each k (none_of (bad_input file inputs k) (bad_at file inputs k) e).0 t)
    where
      go : (t ≡ k) ⊎ (t < k) → (t < k → bad_at file inputs t ≡ None) → bad_at file inputs t ≡ None
      go (inl p) below = rw p (none_of (bad_input file inputs k) (bad_at file inputs k) e).1
      go (inr m) below = below m

  pub none_of_each : (k : ℕ) → ((t : ℕ) → t < k → bad_at file inputs t ≡ None) → bad_input file inputs k ≡ None
  unfolding bad_input
  none_of_each zero h = refl
  none_of_each (suc k) h = rw (none_of_each k (λ t l. h t (omega arith)), h k (omega arith)) refl

  -- without inputs nothing is bad
  pub none_without : input_count file ≡ 0 → (k : ℕ) → bad_input file inputs k ≡ None
  unfolding input_fits inputs_at
  none_without e k = none_of_each k (λ t l. none (input_fits file (inputs_at (input_count file) inputs t)) (streams_of file) (λ i m. fits t i))
    where
      nought_fits : (ty : StreamType) → fits_test ty (pos 0) ≡ true
      nought_fits BoolType = refl
      nought_fits IntType = refl

      or_true : (b : Bool) → (not b || true) ≡ true
      or_true true = refl
      or_true false = refl

      fits : (t i : ℕ) → input_fits file (inputs_at (input_count file) inputs t) i ≡ true
      fits t i = rw (e, nought_fits (type_at file i)) (or_true (is_input file i))

-- ---- the marks

module _ (file : List ℕ) where
  pub below_few : (i : ℕ) → inputs_below file i ≤ i
  unfolding inputs_below
  below_few zero = omega arith
  below_few (suc i) = go (is_input file i) (below_few i)
    where
      go : (b : Bool) → inputs_below file i ≤ i → cond b (suc (inputs_below file i)) (inputs_below file i) ≤ suc i
      go true l = omega arith
      go false l = omega arith

  module _ (k : ℕ) (marks : List Bool) (marked : MarksBools file k marks) where
    -- a mark more never unmarks
    pub mark_more : (j : ℕ) → j ≡ inputs_below file k → j < length marks → MarksBools file (suc k) (set marks j (get_or marks j false || (is_input file k && is_bool (type_at file k))))
    mark_more j e l i m is ty = go (eqb (inputs_below file i) j) refl (eq-or-lt_of_le (le_of_suc-le-suc m))
      where
        old : (b c : Bool) → b ≡ true → (b || c) ≡ true
        old true c p = refl
        old false c p = absurd (false≢true p)

        new : (b : Bool) → (b || true) ≡ true
        new true = refl
        new false = refl

        marked_now : (i ≡ k) ⊎ (i < k) → inputs_below file i ≡ j → (get_or marks j false || (is_input file k && is_bool (type_at file k))) ≡ true
        marked_now (inl q) p =
            let a : is_input file k ≡ true = rw q at is in
            let b : is_bool (type_at file k) ≡ true = rw q at ty in
            rw (a, b) (new (get_or marks j false))
        marked_now (inr q) p = old (get_or marks j false) _ (rw p at (marked i q is ty))

        go : (b : Bool) → eqb (inputs_below file i) j ≡ b → (i ≡ k) ⊎ (i < k) → get_or (set marks j (get_or marks j false || (is_input file k && is_bool (type_at file k)))) (inputs_below file i) false ≡ true
        go true p q = let same = eqb-true (inputs_below file i) j p in rw same (get_or-set_same marks j _ false l) ∙ marked_now q same
        go false p (inl q) = absurd (eqb-false (inputs_below file i) j p (ap (inputs_below file) q ∙ sym e))
        go false p (inr q) = get_or-set_other marks j (inputs_below file i) _ false (eqb-false (inputs_below file i) j p) ∙ marked i q is ty

-- the marked numbers, one more at a time
module _ (marks : List Bool) (numbers : List ℤ) (k : ℕ) (fit : MarkedFit marks numbers k) where
  pub fit_more : (get_or marks k false && not (fits_test BoolType (values_in numbers k))) ≡ false → MarkedFit marks numbers (suc k)
  fit_more e j m marked = go (eq-or-lt_of_le (le_of_suc-le-suc m))
    where
      passes : (b c : Bool) → b ≡ true → (b && not c) ≡ false → c ≡ true
      passes true true p q = refl
      passes true false p q = absurd (true≢false q)
      passes false c p q = absurd (false≢true p)

      go : (j ≡ k) ⊎ (j < k) → fits_test BoolType (values_in numbers j) ≡ true
      go (inl q) = rw q (passes (get_or marks k false) (fits_test BoolType (values_in numbers k)) (rw q at marked) e)
      go (inr q) = fit j q marked
