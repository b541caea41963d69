-- Checked results: which whole numbers are inside, and what a result says of its whole number. For the operations on words,
-- that a result which fits is the checked one, and that a number beyond either limit is outside.
use mathlib.Core.Path.{◌≡◌, sym, ap, ◌∙◌, subst}
use mathlib.Core.Logic.{◌↔◌}
use mathlib.Core.Bool.{true, false}
use Prim.Native.Nat.{ℕ}
use native.Mathlib.Omega.{arith}
use lib.IntN.{ℤ}
use lib.Signed.{◌<ℤ◌}
use mir.Syntax.{w64}
use mir.Val.{SFits}
use mir.Facts.{to_z-of_z}
use Rattle.integers.specs.Range.{inside, checked_of, least, greatest}
use Rattle.std.proofs.lemmas.Int.{ints}
use Rattle.integers.proofs.Reading.{rd, rd_op}
use Rattle.std.specs.Prelude.{None, Option, Some}

pub inside_fits : (z : ℤ) → (inside z ≡ true) ↔ SFits w64 z
unfolding inside
inside_fits z = grind (arith, ints)

pub inside_not : (z : ℤ) → (inside z ≡ false) ↔ (¬ (SFits w64 z))
unfolding inside
inside_not z = grind (arith, ints)

-- ---- from the number to the result

pub within : (z : ℤ) → SFits w64 z → checked_of z ≡ Some z
unfolding checked_of
within z f = rw ((inside_fits z).1 f)

pub outside : (z : ℤ) → ¬ (SFits w64 z) → checked_of z ≡ None
unfolding checked_of
outside z n = rw ((inside_not z).1 n)

pub above : (z : ℤ) → greatest <ℤ z → checked_of z ≡ None
above z h = outside z (λ f. omega (arith, ints))

pub below : (z : ℤ) → z <ℤ least → checked_of z ≡ None
below z h = outside z (λ f. omega (arith, ints))

-- ---- from the result to the number

pub outside_not : (z : ℤ) → checked_of z ≡ None → ¬ (SFits w64 z)
outside_not z e f = let n : ◌≡◌ {A = ℕ} 0 1 = cc (within z f) in omega arith

pub outside_is : (z : ℤ) → checked_of z ≡ None → inside z ≡ false
outside_is z e = (inside_not z).1 (outside_not z e)

-- ---- the result of an operation on words, from what the machine's operation gives

module _ (op : ℤ → ℤ → ℤ) {a b : ℤ} (f : SFits w64 a) (g : SFits w64 b) where
  read : op (rd w64 a) (rd w64 b) ≡ op a b
  read = rd_op w64 op f g

  pub result_inside : SFits w64 (op (rd w64 a) (rd w64 b)) → Some (rd w64 (op (rd w64 a) (rd w64 b))) ≡ checked_of (op a b)
  result_inside h = ap Some (to_z-of_z h ∙ read) ∙ sym (within (op a b) (subst (SFits w64) read h))

  pub result_above : greatest <ℤ op (rd w64 a) (rd w64 b) → None ≡ checked_of (op a b)
  result_above h = sym (above (op a b) (subst (λ z. greatest <ℤ z) read h))

  pub result_below : op (rd w64 a) (rd w64 b) <ℤ least → None ≡ checked_of (op a b)
  result_below h = sym (below (op a b) (subst (λ z. z <ℤ least) read h))

  -- for a caller: what a checked operation that was called with a and b says
  pub called : {r : Option ℤ} → r ≡ checked_of (op (rd w64 a) (rd w64 b)) → r ≡ checked_of (op a b)
  called e = e ∙ ap checked_of read
