-- The values counted over a questions file's questions, one after another.
-- Assumes nothing.
use mathlib.Core.Path.{◌≡◌}
use mathlib.Core.List.{List}
use Prim.Native.Nat.{ℕ, suc, ◌+◌, ◌-◌, ◌<◌, ◌≤◌}
use native.Mathlib.Omega.{arith}
use lib.IntN.{ℤ}
use Rattle.answers.specs.Answer.{Answer}
use Rattle.look_ups.specs.Questions.{answer_of, values_in, values_from}
use Rattle.std.specs.Prelude.{Err, Ok}

one_at_most : (a : Answer ℤ) → values_in a ≤ 1
one_at_most (Ok x) = omega arith
one_at_most (Err r) = omega arith

module _ (node history questions : List ℕ) where
  -- before question i of so many: at most one value a question so far, and with those of the questions left they are all
  pub record Counted (pairs values i : ℕ) : Type 0 where
    pub some : values ≤ i
    pub all : values + values_from node history questions i (pairs - i) ≡ values_from node history questions 0 pairs

  pub at_first : (pairs : ℕ) → Counted pairs 0 0
  at_first pairs =
      let left : pairs - 0 ≡ pairs = omega arith in
      record { some = omega arith; all = rw left (omega arith) }

  pub one_more : (pairs values i r : ℕ) → i < pairs → r ≡ values_in (answer_of node history questions i) → Counted pairs values i → Counted pairs (values + r) (i + 1)
  unfolding values_from
  one_more pairs values i r l e h =
      let left : pairs - i ≡ suc (pairs - suc i) = omega arith in
      let next : i + 1 ≡ suc i = omega arith in
      let all = rw (left, ← e) at h.all in
      record { some = omega (arith, e, one_at_most (answer_of node history questions i)); all = rw next (omega (arith, all)) }

  pub no_more : (pairs values i : ℕ) → pairs ≤ i → Counted pairs values i → values ≡ values_from node history questions 0 pairs
  unfolding values_from
  no_more pairs values i l h =
      let left : pairs - i ≡ 0 = omega arith in
      let all = rw left at h.all in
      omega (arith, all)
