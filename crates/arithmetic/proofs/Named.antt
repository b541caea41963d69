-- A variable that no term of a line names has coefficient 0, so that the sums are tested at the named ones alone.
-- Assumes nothing.
use mathlib.Core.Path.{◌≡◌, refl, sym, subst, ◌∙◌, ap, ap₂}
use mathlib.Core.List.{List, [], ◌∷◌, ◌++◌}
use mathlib.Core.Bool.{Bool, true, false, false≢true}
use Prim.Native.Nat.{ℕ, zero, suc, ◌<◌}
use native.Mathlib.Nat.{le_refl}
use native.Mathlib.Omega.{arith}
use borrow.Author.Tests.{ne_eqb}
use lib.IntN.{ℤ, pos}
use lib.ListN.{length, get_or, replicate}
use Rattle.answers.specs.Checks.{every}
use Rattle.answers.proofs.Every.{every_all, every_of}
use Rattle.answers.proofs.Tests.{same_test}
use Rattle.constraints.specs.Layout.{Constraint, Line, used_in}
use Rattle.constraints.specs.Linear.{Form, variable, coefficient, scaled, written, same_z}
use Rattle.rules.specs.Arithmetic.{sum_of}
use Rattle.rules.specs.Limited.{Named}
use Rattle.arithmetic.specs.Sums.{sums_of, zero_at, terms_zero}
use Rattle.arithmetic.proofs.Adding.{on, factor, form_more, sums_are}

-- the variable of term j
abbrev named : Constraint → (j : ℕ) → ℕ
named c j = variable (c.term j).offset (c.term j).stream

-- terms that do not name x leave its coefficient as it is
unnamed_terms : (z : ℤ) (c : Constraint) (n x : ℕ) → ((j : ℕ) → j < n → named c j ≡ x → ⊥) → (rest : Form)
    → coefficient (scaled z (written c n) ++ rest) x ≡ coefficient rest x
unfolding written
unnamed_terms z c zero x h rest = refl
unnamed_terms z c (suc n) x h rest =
    rw (ne_eqb (named c n) x (h n (le_refl (suc n)))) (unnamed_terms z c n x (λ j l. h j (omega arith)) rest)

-- a list of n numbers that are all 0
pub zeros_are : (n : ℕ) (l : List ℤ) → length l ≡ n → ((x : ℕ) → x < n → get_or l x (pos 0) ≡ pos 0) → l ≡ replicate n (pos 0)
zeros_are zero [] e h = refl
zeros_are zero (z ∷ l) e h = absurd (omega (arith, e))
zeros_are (suc n) [] e h = absurd (omega (arith, e))
zeros_are (suc n) (z ∷ l) e h =
    ap₂ ◌∷◌ (h 0 (omega arith)) (zeros_are n l (omega (arith, e)) (λ x k. h (suc x) (omega arith)))

module _ (constraints : ℕ → Constraint) (line : Line) where
  unnamed : (n x : ℕ)
      → ((i : ℕ) → i < n → (j : ℕ) → j < used_in (on constraints line i) → named (on constraints line i) j ≡ x → ⊥)
      → coefficient (sum_of constraints line n).form x ≡ pos 0
  unfolding sum_of
  unnamed zero x h = refl
  unnamed (suc n) x h =
      let c = on constraints line n in
      ap (λ (f : Form). coefficient f x) (form_more constraints line n)
      ∙ unnamed_terms (factor constraints line n) c (used_in c) x (h n (le_refl (suc n))) (sum_of constraints line n).form
      ∙ unnamed n x (λ i l. h i (omega arith))

  module _ (n : ℕ) where
    abbrev sums : List ℤ
    sums = sums_of constraints line n

    abbrev zero_sum : ℕ → Bool
    zero_sum x = same_z (coefficient (sum_of constraints line n).form x) (pos 0)

    abbrev zero_of : ℕ → Bool
    zero_of i = terms_zero sums (on constraints line i)

    same_zero : (x : ℕ) → x < 576 → same_z (get_or sums x (pos 0)) (pos 0) ≡ zero_sum x
    same_zero x l = ap (λ (z : ℤ). same_z z (pos 0)) (sums_are constraints line n x l)

    zero_anywhere : every zero_of n ≡ true → (x : ℕ) → x < 576 → (t : Bool) → zero_sum x ≡ t → zero_sum x ≡ true
    zero_anywhere all x l true e = e
    zero_anywhere all x l false e =
        ap (λ (z : ℤ). same_z z (pos 0))
        (unnamed n x λ i k j m p.
        let c = on constraints line i in
        let here : same_z (get_or sums (named c j) (pos 0)) (pos 0) ≡ true =
        every_all (zero_at sums c) (used_in c) (every_all zero_of n all i k) j m in
        false≢true (sym e ∙ sym (same_zero x l) ∙ subst (λ (y : ℕ). same_z (get_or sums y (pos 0)) (pos 0) ≡ true) p here))

    -- the test at the named variables is the test at all
    pub named_suffice : ((i : ℕ) → i < n → Named (on constraints line i) (used_in (on constraints line i)))
        → every zero_of n ≡ every zero_sum 576
    named_suffice below =
        same_test (every zero_of n) (every zero_sum 576)
        (λ all. every_of zero_sum 576 (λ x l. zero_anywhere all x l (zero_sum x) refl))
        (λ all.
        every_of zero_of n
        (λ i k.
        let c = on constraints line i in
        every_of (zero_at sums c) (used_in c)
        (λ j m. same_zero (named c j) (below i k j m) ∙ every_all zero_sum 576 all (named c j) (below i k j m))))
