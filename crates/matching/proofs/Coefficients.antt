-- The coefficient at a variable: one monomial at a time, with the bounds that keep the sum within a machine's word, and the
-- test of two forms as one test a term.
-- Assumes nothing.
use mathlib.Core.Path.{◌≡◌, refl, sym, ◌∙◌, ap, ap₂}
use mathlib.Core.List.{List, [], ◌∷◌}
use mathlib.Core.Bool.{Bool, true, false, cond, ◌&&◌}
use Prim.Native.Nat.{ℕ, zero, suc, ◌+◌, ◌*◌, ◌≤◌, ◌<◌}
use native.Mathlib.Numerals.{add-one}
use native.Mathlib.Omega.{arith}
use lib.Dec.{eqb, ltb}
use lib.IntN.{ℤ, pos, nat_abs, ◌+ℤ◌, ◌-ℤ◌}
use lib.ListN.{get_or}
use mir.Syntax.{w64}
use mir.Val.{SFits, to_z}
use mir.Facts.{to_z-of_z}
use borrow.Author.Tests.{ltb-true, ltb-false}
use Rattle.integers.proofs.Diff.{zify}
use Rattle.integers.proofs.Abs.{abs_fits, bound_add}
use Rattle.integers.proofs.Reading.{rd}
use Rattle.integers.proofs.Ring.{+ℤ_idl, +ℤ_idr, +ℤ_comm}
use Rattle.fields.specs.Fields.{u32_at, i32_at, twos_complement}
use Rattle.answers.specs.Checks.{every}
use Rattle.constraints.specs.Layout.{Constraint}
use Rattle.constraints.specs.Linear.{Monomial, Form, coefficient, monomial, written, agree_at}
use Rattle.matching.specs.Content.{share, agree}

cond_abs : (t : Bool) (z : ℤ) (n : ℕ) → nat_abs z ≤ n → nat_abs (cond t z (pos 0)) ≤ n
cond_abs true z n l = l
cond_abs false z n l = omega arith

pub share_limit : (m : Monomial) (x n : ℕ) → nat_abs m.times ≤ n → nat_abs (share m x) ≤ n
share_limit m x n l = cond_abs (eqb m.of x) m.times n l

-- as the machine reads the number of times
pub share_read : (of : ℕ) (z : ℤ) (x : ℕ) → SFits w64 z → share (record { of = of; times = rd w64 z }) x ≡ share (record { of = of; times = z }) x
share_read of z x f = ap (λ (y : ℤ). share (record { of = of; times = y }) x) (to_z-of_z f)

cond_add : (t : Bool) (z s : ℤ) → cond t (z +ℤ s) s ≡ cond t z (pos 0) +ℤ s
cond_add true z s = refl
cond_add false z s = sym (+ℤ_idl s)

pub coefficient_more : (m : Monomial) (ms : Form) (x : ℕ) → coefficient (m ∷ ms) x ≡ share m x +ℤ coefficient ms x
coefficient_more m ms x = cond_add (eqb m.of x) m.times (coefficient ms x)

pub written_more : (c : Constraint) (j x : ℕ) → coefficient (written c (j + 1)) x ≡ share (monomial (c.term j)) x +ℤ coefficient (written c j) x
unfolding written
written_more c j x = rw add-one (coefficient_more (monomial (c.term j)) (written c j) x)

pub three_shares : (l m n : Monomial) (x : ℕ) → coefficient (l ∷ m ∷ n ∷ []) x ≡ share l x +ℤ (share m x +ℤ share n x)
three_shares l m n x =
    coefficient_more l (m ∷ n ∷ []) x
    ∙ ap (λ (z : ℤ). share l x +ℤ z)
    (coefficient_more m (n ∷ []) x
    ∙ ap (λ (z : ℤ). share m x +ℤ z) (coefficient_more n [] x ∙ +ℤ_idr (share n x)))

pub agree_every : (f g : Form) (c : Constraint) (n : ℕ) → agree_at f g (written c n) ≡ every (λ j. agree f g (monomial (c.term j)).of) n
unfolding agree_at written every
agree_every f g c zero = refl
agree_every f g c (suc n) = ap₂ ◌&&◌ (agree_every f g c n) refl

-- ---- a field of four bytes

below_half : (n half whole : ℕ) → half ≤ n → n < whole → whole ≡ half + half → nat_abs (pos n -ℤ pos whole) ≤ half
below_half n half whole = simp zify (omega arith)

half_limit : (n : ℕ) (t : Bool) → ltb n 2147483648 ≡ t → n < 4294967296 → nat_abs (cond t (pos n) (pos n -ℤ pos 4294967296)) ≤ 2147483648
half_limit n true e l = omega (arith, ltb-true n 2147483648 e)
half_limit n false e l = below_half n 2147483648 4294967296 (ltb-false n 2147483648 e) l refl

pub word_limit : (s : List ℕ) (at : ℕ) → ((i : ℕ) → get_or s i 0 < 256) → nat_abs (i32_at s at) ≤ 2147483648
unfolding twos_complement
word_limit s at bytes =
    let n : ℕ = u32_at s at in
    half_limit n (ltb n 2147483648) refl (omega (arith, bytes at, bytes (at + 1), bytes (at + 2), bytes (at + 2 + 1)))

-- ---- sums that fit

-- one more share, of a sum of j: at most eight are summed
module _ (z : ℤ) (sum j : ℕ) (few : j < 8) (h : nat_abs z ≤ 2147483648) (k : nat_abs (to_z w64 sum) ≤ j * 2147483648) where
  turn_is : to_z w64 sum +ℤ rd w64 z ≡ z +ℤ to_z w64 sum
  turn_is = ap (λ (y : ℤ). to_z w64 sum +ℤ y) (to_z-of_z (abs_fits w64 z (omega arith))) ∙ +ℤ_comm (to_z w64 sum) z

  bounded : nat_abs (z +ℤ to_z w64 sum) ≤ 2147483648 + j * 2147483648
  bounded = bound_add 2147483648 (j * 2147483648) z (to_z w64 sum) h k

  pub turn_fits : SFits w64 (to_z w64 sum +ℤ rd w64 z)
  turn_fits = rw turn_is (abs_fits w64 (z +ℤ to_z w64 sum) (omega (arith, bounded)))

  pub turn : rd w64 (to_z w64 sum +ℤ rd w64 z) ≡ z +ℤ to_z w64 sum
  turn = to_z-of_z turn_fits ∙ turn_is

  pub turn_limit : nat_abs (rd w64 (to_z w64 sum +ℤ rd w64 z)) ≤ (j + 1) * 2147483648
  turn_limit = rw turn (omega (arith, bounded))

-- three shares
module _ (a b c : ℤ) (ha : nat_abs a ≤ 100000000000) (hb : nat_abs b ≤ 8000000000000000000) (hc : nat_abs c ≤ 100000000000) where
  inner_is : rd w64 b +ℤ rd w64 c ≡ b +ℤ c
  inner_is = ap₂ ◌+ℤ◌ (to_z-of_z (abs_fits w64 b (omega arith))) (to_z-of_z (abs_fits w64 c (omega arith)))

  inner_bounded : nat_abs (b +ℤ c) ≤ 8000000100000000000
  inner_bounded = bound_add 8000000000000000000 100000000000 b c hb hc

  pub inner_fits : SFits w64 (rd w64 b +ℤ rd w64 c)
  inner_fits = rw inner_is (abs_fits w64 (b +ℤ c) (omega (arith, inner_bounded)))

  outer_is : rd w64 a +ℤ rd w64 (rd w64 b +ℤ rd w64 c) ≡ a +ℤ (b +ℤ c)
  outer_is = ap₂ ◌+ℤ◌ (to_z-of_z (abs_fits w64 a (omega arith))) (to_z-of_z inner_fits ∙ inner_is)

  outer_bounded : nat_abs (a +ℤ (b +ℤ c)) ≤ 8000000200000000000
  outer_bounded = bound_add 100000000000 8000000100000000000 a (b +ℤ c) ha inner_bounded

  pub outer_fits : SFits w64 (rd w64 a +ℤ rd w64 (rd w64 b +ℤ rd w64 c))
  outer_fits = rw outer_is (abs_fits w64 (a +ℤ (b +ℤ c)) (omega (arith, outer_bounded)))

  pub sum_of_three : rd w64 (rd w64 a +ℤ rd w64 (rd w64 b +ℤ rd w64 c)) ≡ a +ℤ (b +ℤ c)
  sum_of_three = to_z-of_z outer_fits ∙ outer_is
