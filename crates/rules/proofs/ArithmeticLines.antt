-- An accepted arithmetic line is satisfied by every window: were its literals all false, their opposites would all hold, and the
-- sum of those says that 0 is at most −1.
-- Assumes nothing.
use mathlib.Core.Path.{◌≡◌, sym, ◌∙◌, ap}
use mathlib.Core.Logic.{◌⊎◌, inl, inr}
use mathlib.Core.Bool.{Bool, true, false, cond, not}
use Prim.Native.Nat.{ℕ, ◌<◌}
use borrow.Author.Tests.{not-false}
use lib.Signed.{◌≤ℤ◌}
use Rattle.integers.proofs.Order.{le_z_true}
use Rattle.constraints.specs.Layout.{Constraint, Line, used_in, listed_in}
use Rattle.constraints.specs.Linear.{Bounded, total, negated, bounded_of}
use Rattle.constraints.proofs.Negations.{negation_opposite}
use Rattle.literals.specs.Literals.{atom_of, is_negated, is_constraint, constraint_number}
use Rattle.rules.specs.Arithmetic.{opposite_says, arithmetic_ok}
use Rattle.rules.specs.Limited.{Named}
use Rattle.rules.specs.Satisfaction.{Valuation, is_bounded, atom_true, literal_true, Satisfies}
use Rattle.rules.proofs.Contradiction.{accepted, contradiction}
use Rattle.rules.proofs.Search.{Passing, AllFail, searched}

module _ (w : Valuation) where
  abbrev Within : Bounded → Type 0
  Within c = total c.form w ≤ℤ c.bound

  negation_holds : (c : Bounded) → is_bounded w c ≡ false → Within (negated c)
  negation_holds c e = (le_z_true (total (negated c).form w) (negated c).bound).0 (negation_opposite w c ∙ ap not e)

  -- a literal on the constraint c is false: c where the literal is negated, else its negation
  opposite_within : (c : Bounded) (is_neg : Bool) → cond is_neg (not (is_bounded w c)) (is_bounded w c) ≡ false → Within (cond is_neg c (negated c))
  opposite_within c true e = (le_z_true (total c.form w) c.bound).0 (not-false (is_bounded w c) e)
  opposite_within c false e = negation_holds c e

module _ (constraints : ℕ → Constraint) (w : Valuation) where
  -- the constraint of an atom
  abbrev on : (atom : ℕ) → Constraint
  on atom = constraints (constraint_number atom)

  constraint_true : (atom : ℕ) → is_constraint atom ≡ true → atom_true constraints w atom ≡ is_bounded w (bounded_of (on atom))
  unfolding atom_true
  constraint_true atom e = rw e

  opposite_holds : (l : ℕ) → is_constraint (atom_of l) ≡ true → literal_true constraints w l ≡ false → Within w (opposite_says constraints l)
  unfolding literal_true
  opposite_holds l e f =
      opposite_within w (bounded_of (on (atom_of l))) (is_negated l)
      (ap (λ (b : Bool). cond (is_negated l) (not b) b) (sym (constraint_true (atom_of l) e)) ∙ f)

  pub arithmetic_satisfied :
      (line : Line) → arithmetic_ok constraints line ≡ true
      → ((j : ℕ) → j < listed_in line → Named (on (atom_of (line.literal j))) (used_in (on (atom_of (line.literal j)))))
      → Satisfies constraints w line
  arithmetic_satisfied line e named = go (searched true_at_is (listed_in line))
    where
      true_at_is : ℕ → Bool
      true_at_is j = literal_true constraints w (line.literal j)

      go : Passing true_at_is (listed_in line) ⊎ AllFail true_at_is (listed_in line) → Satisfies constraints w line
      go (inl p) = record { which = p.at; listed = p.below; holds = p.passes }
      go (inr fail) =
          absurd (contradiction constraints line e named w (λ j l. opposite_holds (line.literal j) ((accepted constraints line e).on_constraints j l) (fail j l)))
