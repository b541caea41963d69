-- `find` over the numbers from `start` on, where each before it passes, finds what `lowest` does.
-- Assumes nothing.
use mathlib.Core.Path.{◌≡◌, refl, sym}
use mathlib.Core.Bool.{Bool, true, false}
use mathlib.Core.List.{List}
use Prim.Native.Nat.{ℕ, ◌<◌, ◌≤◌}
use borrow.Author.Tests.{ltb-true, ltb-false}
use lib.Dec.{ltb}
use denote.Ref.{Bor}
use denote.Param.Members.{Mut}
use Rattle.std.specs.declared.ops.Range.{Range}
use Rattle.std.proofs.iter.Yields.{nat_range_steps}
use Rattle.std.specs.Bool.{⊤}
use Rattle.std.specs.Fn.{CalledAt}
use Rattle.std.specs.Iterator.{YieldsThen}
use Rattle.std.specs.List.{FoldsTo}
use Rattle.std.specs.Option.{MatchOption}
use Rattle.std.specs.Prelude.{Option, None, Some}
use Rattle.std.proofs.lemmas.Iterator.{first_from_Range}
use Rattle.answers.specs.Checks.{lowest}
use Rattle.answers.proofs.Lowest.{none, found}

module _ (ok : ℕ → Bool) where
  abbrev Passes : (from to : ℕ) → Type 0
  Passes from to = (k : ℕ) → from ≤ k → k < to → ok k ≡ true

  from_first : (start i : ℕ) → ((k : ℕ) → k < start → ok k ≡ true) → Passes start i → (k : ℕ) → k < i → ok k ≡ true
  from_first start i before later k l = go (ltb k start) refl
    where
      go : (b : Bool) → ltb k start ≡ b → ok k ≡ true
      go true e = before k (ltb-true k start e)
      go false e = later k (ltb-false k start e) l

  lowest_is : (start end : ℕ) → ((k : ℕ) → k < start → ok k ≡ true) → (r : Option ℕ) → MatchOption r (Passes start end) (λ i. (start ≤ i) × (i < end) × (ok i ≡ false) × Passes start i) → r ≡ lowest ok end
  lowest_is start end before None h = sym (none ok end (from_first start end before h))
  lowest_is start end before (Some i) h = sym (found ok end i h.1 (from_first start i before h.3) h.2)

  -- the closure, which changes nothing, passes a number that fails
  pub lowest_from_find : {F : Type 0} {g : Mut F (Bor ℕ × Unit {0}) Bool} {s : Range ℕ} {f : F} {r : Option ℕ} (u : Range ℕ)
      → (xs : List ℕ) × (j : F) × YieldsThen nat_range_steps s xs r u × FoldsTo (λ p x q. CalledAt g p x false q) f xs j × MatchOption r ⊤ (λ x. (h : F) × CalledAt g j x true h)
      → ((k : ℕ) → k < s.start → ok k ≡ true)
      → ((x : ℕ) (q : F) → CalledAt g f x true q → ok x ≡ false)
      → ((x : ℕ) (q : F) → CalledAt g f x false q → (q ≡ f) × (ok x ≡ true))
      → r ≡ lowest ok s.end
  lowest_from_find {s = s} {f = f} {r = r} u ran before fails passes =
      lowest_is s.start s.end before r (first_from_Range s u f r (λ x. ok x ≡ false) (λ x. ok x ≡ true) ran fails passes)
