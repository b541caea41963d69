-- `all` over the numbers below n says what `every` says of the first n.
-- Assumes nothing.
use mathlib.Core.Path.{◌≡◌, sym, subst}
use mathlib.Core.Bool.{Bool, true, false}
use mathlib.Core.List.{List}
use Prim.Native.Nat.{ℕ, ◌<◌}
use native.Mathlib.Omega.{arith}
use lib.ListN.{length, get_or}
use denote.Param.Members.{Mut}
use Rattle.std.specs.declared.ops.Range.{Range}
use Rattle.std.specs.declared.option.Option.{Option}
use Rattle.std.proofs.iter.Yields.{nat_range_steps}
use Rattle.std.specs.Bool.{MatchBool}
use Rattle.std.specs.Fn.{Called}
use Rattle.std.specs.Iterator.{YieldsThen}
use Rattle.std.specs.List.{FoldsTo, AllWithin, HoldsAt, range_with_len}
use Rattle.std.specs.Option.{MatchOption}
use Rattle.std.proofs.lemmas.Iterator.{cases_from_all, YieldsList-from_range}
use Rattle.std.proofs.lemmas.List.FromFn.{length-range_with_len, get_or-range_with_len}
use Rattle.answers.specs.Checks.{every}
use Rattle.answers.proofs.Every.{every_of, every_not}

module _ (ok : ℕ → Bool) (n : ℕ) where
  abbrev numbers : List ℕ
  numbers = range_with_len 0 n

  abbrev passes : ℕ → Type 0
  passes x = ok x ≡ true

  abbrev fails : ℕ → Type 0
  fails x = ok x ≡ false

  at : (k : ℕ) → k < n → get_or numbers k 0 ≡ k
  at k l = omega (arith, get_or-range_with_len 0 n k 0 l)

  by_answer : (r : Bool) → MatchBool r (AllWithin passes numbers 0 (length numbers)) ((k : ℕ) × (k < length numbers) × HoldsAt fails numbers k) → r ≡ every ok n
  by_answer true h =
      sym (every_of ok n (λ k l. subst passes (at k l) (h k 0 (omega arith) (omega (arith, length-range_with_len 0 n)))))
  by_answer false h =
      let l : h.0 < n = omega (arith, h.1, length-range_with_len 0 n) in
      sym (every_not ok h.0 n l (subst fails (at h.0 l) (h.2 0)))

  -- the closure, which changes nothing, answers the test
  pub every_from_all : {F : Type 0} {g : Mut F (ℕ × Unit {0}) Bool} {s u : Range ℕ} {f : F} {r : Bool}
      → (xs : List ℕ) × (o : Option ℕ) × (j : F) × YieldsThen nat_range_steps s xs o u × FoldsTo (λ p x q. Called g p (x, tt) true q) f xs j × MatchOption o (r ≡ true) (λ x. (r ≡ false) × ((h : F) × Called g j (x, tt) false h))
      → s ≡ record { start = 0; end = n }
      → ((x : ℕ) (y : Bool) (q : F) → Called g f (x, tt) y q → (q ≡ f) × (y ≡ ok x))
      → r ≡ every ok n
  every_from_all {u = u} {f = f} {r = r} ran e answers =
      by_answer r
      (cases_from_all u f r passes fails ran (YieldsList-from_range 0 n n e (omega arith))
      (λ x q k. let a = answers x true q k in (a.0, sym a.1))
      (λ x q k. sym (answers x false q k).1))
