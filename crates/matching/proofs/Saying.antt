-- When a literal says a constraint.
-- Assumes nothing.
use mathlib.Core.Path.{◌≡◌}
use mathlib.Core.Bool.{true, false, and-false}
use Prim.Native.Nat.{ℕ, ◌≤◌, ◌<◌}
use borrow.Author.Tests.{le-leb, lt-leb, lt-ltb, le-ltb}
use Rattle.constraints.specs.Layout.{Constraint}
use Rattle.constraints.specs.Linear.{bounded_of as of_constraint}
use Rattle.rules.specs.declared.pattern.Linear.{Linear}
use Rattle.literals.specs.Literals.{atom_of, is_negated, constraint_number}
use Rattle.rules.specs.Factors.{is_multiple, says_most}

module _ (constraint : ℕ → Constraint) (m : ℕ) (d : Linear) (l : ℕ) where
  pub not_negated : is_negated l ≡ true → says_most constraint m d l ≡ false
  unfolding says_most
  not_negated e = rw e

  pub not_bool : atom_of l < 576 → says_most constraint m d l ≡ false
  unfolding says_most
  not_bool h = rw (lt-leb 576 (atom_of l) h, and-false)

  pub not_past : m ≤ constraint_number (atom_of l) → says_most constraint m d l ≡ false
  unfolding says_most
  not_past h = rw (le-ltb (constraint_number (atom_of l)) m h, and-false)

  pub says_multiple : is_negated l ≡ false → 576 ≤ atom_of l → constraint_number (atom_of l) < m → says_most constraint m d l ≡ is_multiple d (of_constraint (constraint (constraint_number (atom_of l))))
  unfolding says_most
  says_multiple e h k = rw (e, le-leb 576 (atom_of l) h, lt-ltb (constraint_number (atom_of l)) m k)
