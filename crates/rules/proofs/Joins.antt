-- Joins keep satisfaction: of a literal and its opposite one is false, so one of the two lines is true by another literal, and
-- that one stands in the joined line.
-- Assumes nothing.
use mathlib.Core.Path.{◌≡◌, refl, sym, ◌∙◌, ap}
use mathlib.Core.Logic.{◌⊎◌, inl, inr}
use mathlib.Core.Bool.{Bool, true, false, not, ◌&&◌, false≢true}
use Prim.Native.Nat.{ℕ, zero, suc, ◌+◌, ◌<◌}
use native.Mathlib.Omega.{arith}
use borrow.Author.Tests.{eqb-true}
use lib.Dec.{eqb}
use Rattle.answers.proofs.Every.{every_all}
use Rattle.answers.proofs.Tests.{both_true, either_true}
use Rattle.constraints.specs.Layout.{Constraint, Line, listed_in}
use Rattle.literals.specs.Literals.{opposite_of}
use Rattle.rules.specs.Joins.{stands_from, stands_in, covered_by, covered, joins}
use Rattle.rules.specs.Satisfaction.{Valuation, literal_true, Satisfies}
use Rattle.rules.proofs.Literals.{opposite_true}

-- a literal is one of the first n
record Stands (literal : ℕ → ℕ) (l n : ℕ) : Type 0 where
  pub at : ℕ
  pub below : at < n
  pub is : literal at ≡ l

-- what the search finds, stands there
stands : (literal : ℕ → ℕ) (l j left : ℕ) → stands_from literal l j left ≡ true → Stands literal l (j + left)
unfolding stands_from
stands literal l j zero e = absurd (false≢true e)
stands literal l j (suc left) e =
    go (either_true (eqb (literal j) l) (stands_from literal l (suc j) left) e) (stands literal l (suc j) left)
  where
    go : (eqb (literal j) l ≡ true) ⊎ (stands_from literal l (suc j) left ≡ true)
        → (stands_from literal l (suc j) left ≡ true → Stands literal l (suc j + left))
        → Stands literal l (j + suc left)
    go (inl here) rest = record { at = j; below = omega arith; is = eqb-true (literal j) l here }
    go (inr later) rest =
        let s = rest later in
        record { at = s.at; below = omega (arith, s.below); is = s.is }

module _ (constraints : ℕ → Constraint) (w : Valuation) where
  abbrev true_literal : ℕ → Bool
  true_literal = literal_true constraints w

  -- a true literal that stands in a line makes the line true
  stands_satisfied : (line : Line) (l : ℕ) → true_literal l ≡ true → Stands line.literal l (0 + listed_in line) → Satisfies constraints w line
  stands_satisfied line l t s =
      record { which = s.at; listed = omega (arith, s.below); holds = ap true_literal s.is ∙ t }

  -- each literal but one stands in the other line, and that one is false
  covered_satisfied : (line : Line) (but : ℕ) (other : Line) → covered line but other ≡ true → true_literal but ≡ false → Satisfies constraints w line → Satisfies constraints w other
  covered_satisfied line but other e f s =
      let l = line.literal s.which in
      go l refl (either_true (eqb l but) (stands_in other l) (every_all (covered_by line.literal but other.literal (listed_in other)) (listed_in line) e s.which s.listed))
    where
      go : (l : ℕ) → line.literal s.which ≡ l → (eqb l but ≡ true) ⊎ (stands_in other l ≡ true) → Satisfies constraints w other
      go l same (inl is) = absurd (false≢true (sym f ∙ ap true_literal (sym (same ∙ eqb-true l but is)) ∙ s.holds))
      go l same (inr there) =
          stands_satisfied other l (ap true_literal (sym same) ∙ s.holds) (stands other.literal l 0 (listed_in other) there)

  pub joined : (p q : Line) (r : ℕ) (line : Line) → joins p q r line ≡ true → Satisfies constraints w p → Satisfies constraints w q → Satisfies constraints w line
  unfolding joins
  joined p q r line e of_p of_q = go (true_literal r) refl
    where
      all : ((stands_in p r && stands_in q (opposite_of r) && covered p r line) ≡ true) × (covered q (opposite_of r) line ≡ true)
      all = both_true (stands_in p r && stands_in q (opposite_of r) && covered p r line) (covered q (opposite_of r) line) e

      go : (b : Bool) → true_literal r ≡ b → Satisfies constraints w line
      go false f =
          covered_satisfied p r line (both_true (stands_in p r && stands_in q (opposite_of r)) (covered p r line) all.0).1 f of_p
      go true t = covered_satisfied q (opposite_of r) line all.1 (opposite_true constraints w r ∙ ap not t) of_q
