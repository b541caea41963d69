-- The tests of a line, in the order in which the code meets them.
-- Assumes nothing.
use mathlib.Core.Path.{◌≡◌, refl, sym, ◌∙◌, ap, subst}
use mathlib.Core.List.{List}
use mathlib.Core.Bool.{Bool, true, false, cond, ◌&&◌}
use Prim.Native.Nat.{ℕ, ◌≤◌, ◌<◌}
use native.Mathlib.Omega.{arith}
use borrow.Author.Tests.{le-leb, lt-leb}
use lib.IntN.{ℤ, pos, neg_ℤ}
use lib.ListN.{replicate}
use lib.Signed.{le_z}
use Rattle.answers.specs.Checks.{every}
use Rattle.answers.proofs.Every.{every_all, every_of}
use Rattle.constraints.specs.Layout.{Constraint, Line, used_in, listed_in, line_head_at, literal_at, multiplier_at}
use Rattle.literals.specs.Literals.{atom_of, is_constraint}
use Rattle.rules.specs.Limited.{Named}
use Rattle.rules.specs.Arithmetic.{sum_of, arithmetic_ok}
use Rattle.rules.proofs.Contradiction.{accepted}
use Rattle.arithmetic.specs.Sums.{add_form, sums_of, sums_after, terms_zero}
use Rattle.arithmetic.specs.Checkable.{Usable, Checkable}
use Rattle.arithmetic.proofs.Adding.{on, sums_are, length_sums}
use Rattle.arithmetic.proofs.Named.{zeros_are, named_suffice}

module _ (constraints : ℕ → Constraint) (line : Line) (n : ℕ) (e : n ≡ listed_in line) where
  abbrev ok : ℕ → Bool
  ok j = is_constraint (atom_of (line.literal j))

  abbrev all_on : Bool
  all_on = every ok n

  pub ends_none : n < 1 → false ≡ arithmetic_ok constraints line
  unfolding arithmetic_ok
  ends_none l = rw (sym e, lt-leb 1 n l)

  pub ends_other : 1 ≤ n → all_on ≡ false → false ≡ arithmetic_ok constraints line
  unfolding arithmetic_ok
  ends_other l f = rw (sym e, le-leb 1 n l, f)

  pub ends : 1 ≤ n → all_on ≡ true → (sums : List ℤ) (bound : ℤ)
      → sums ≡ sums_of constraints line n → bound ≡ (sum_of constraints line n).bound
      → ((j : ℕ) → j < n → Named (on constraints line j) (used_in (on constraints line j)))
      → (every (λ j. terms_zero sums (on constraints line j)) n && le_z bound (neg_ℤ (pos 1))) ≡ arithmetic_ok constraints line
  unfolding arithmetic_ok
  ends l f sums bound g h below =
      rw (g, h, named_suffice constraints line n below, ← e, le-leb 1 n l, f)

  -- ---- what the sums hold

  pub after_all_is : all_on ≡ true → sums_of constraints line n ≡ sums_after constraints line
  unfolding sums_after
  after_all_is f =
      ap (sums_of constraints line) e
      ∙ sym (ap (λ (b : Bool). cond b (sums_of constraints line (listed_in line)) (replicate 576 (pos 0))) (subst (λ (m : ℕ). every ok m ≡ true) e f))

  pub after_other : all_on ≡ false → replicate 576 (pos 0) ≡ sums_after constraints line
  unfolding sums_after
  after_other f =
      sym (ap (λ (b : Bool). cond b (sums_of constraints line (listed_in line)) (replicate 576 (pos 0))) (subst (λ (m : ℕ). every ok m ≡ false) e f))

  pub after_none : n < 1 → replicate 576 (pos 0) ≡ sums_after constraints line
  unfolding sum_of add_form every
  after_none l =
      let none : n ≡ 0 = omega arith in
      ap (sums_of constraints line) (sym none) ∙ after_all_is (ap (every ok) none)

-- a line that passes leaves the sums at zero
pub passed_clear : (constraints : ℕ → Constraint) (line : Line) → arithmetic_ok constraints line ≡ true → sums_after constraints line ≡ replicate 576 (pos 0)
passed_clear constraints line e =
    let n = listed_in line in
    let told = accepted constraints line e in
    sym (after_all_is constraints line n refl (every_of (λ j. is_constraint (atom_of (line.literal j))) n told.on_constraints))
    ∙ zeros_are 576 (sums_of constraints line n) (length_sums constraints line n) λ x l. sums_are constraints line n x l ∙ told.zeros x l

-- a listed literal on a constraint, with a multiplier within the limit, is usable
pub usable : (s : List ℕ) (start at n : ℕ) → Checkable s start at → n ≡ (line_head_at s at).count → (j : ℕ) → j < n
    → is_constraint (atom_of (literal_at s at j)) ≡ true → multiplier_at s at j ≤ 1000000 → Usable s start at j
usable s start at n good e j l on small =
    let k : j < (line_head_at s at).count = omega arith in
    record {
      room = good.room;
      listed = omega (arith, good.few);
      multiplier = small;
      constraint = on;
      summable = good.constraints j k on;
    }

-- .. and so is each of the first n
pub all_usable : (s : List ℕ) (start at n : ℕ) → Checkable s start at × (n ≡ (line_head_at s at).count)
    → every (λ j. is_constraint (atom_of (literal_at s at j))) n ≡ true → ((j : ℕ) → j < n → multiplier_at s at j ≤ 1000000)
    → (j : ℕ) → j < n → Usable s start at j
all_usable s start at n good on small j l = usable s start at n good.0 good.1 j l (every_all _ n on j l) (small j l)
