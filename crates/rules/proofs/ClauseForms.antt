-- The forms that clauses are made of: what their literals say, and that equal numbers make them true.
-- Assumes nothing.
use mathlib.Core.Path.{◌≡◌, refl, sym, ◌∙◌}
use mathlib.Core.Logic.{◌⊎◌, inl, inr}
use mathlib.Core.List.{List, [], ◌∷◌, map}
use mathlib.Core.Bool.{Bool, true, false, not, or-false}
use Prim.Native.Nat.{ℕ}
use native.Mathlib.Omega.{arith}
use lib.IntN.{ℤ, pos, neg_ℤ, ◌+ℤ◌, ◌*ℤ◌}
use lib.Signed.{le_z}
use Rattle.std.proofs.lemmas.Int.{ints}
use Rattle.integers.proofs.Order.{le_z_self, le_z_true}
use Rattle.integers.proofs.Ring.{negℤ-*ℤ}
use Rattle.node.specs.declared.equation.StreamType.{StreamType}
use Rattle.node.specs.declared.equation.StreamType.TheVariants.{Bool as BoolType, Int as IntType}
use Rattle.node.specs.Reads.{All}
use Rattle.streams.specs.Values.{truth}
use Rattle.rules.specs.declared.pattern.Clause.{Clause}
use Rattle.rules.specs.declared.pattern.Pattern.{Pattern}
use Rattle.rules.specs.Clauses.{most, less, equal_to, same_as, guarded}
use Rattle.rules.specs.Satisfaction.{Valuation, pattern_true, clause_true}

-- all of these clauses are true
abbrev pub AllTrue : Valuation → List Clause → Type 0
AllTrue w = All (λ c. clause_true w c ≡ true)

-- what each of a list has, each has that is made of one
pub all_map : {A : Type 0} (P Q : A → Type 0) (f : A → A) → ((x : A) → P x → Q (f x)) → (xs : List A) → All P xs → All Q (map f xs)
all_map P Q f step [] ps = tt
all_map P Q f step (x ∷ xs) ps = (step x ps.0, all_map P Q f step xs ps.1)

-- ---- constraints on two streams

-- x − y as a clause's constraint has it
abbrev difference : ℤ → ℤ → ℤ
difference x y = pos 1 *ℤ x +ℤ (neg_ℤ (pos 1) *ℤ y +ℤ (pos 0 *ℤ x +ℤ pos 0))

-- s − a − b is at most k, and a + b − s at most −k, where s is a + b + k
upper : (a b k : ℤ) → le_z (pos 1 *ℤ (a +ℤ b +ℤ k) +ℤ (neg_ℤ a +ℤ (neg_ℤ b +ℤ pos 0))) k ≡ true
upper a b k = (le_z_true _ k).1 (omega (arith, ints))

lower : (a b k : ℤ) → le_z (neg_ℤ (pos 1) *ℤ (a +ℤ b +ℤ k) +ℤ (a +ℤ (b +ℤ pos 0))) (neg_ℤ k) ≡ true
lower a b k = (le_z_true _ (neg_ℤ k)).1 (omega (arith, ints))

-- a clause of one or two literals
abbrev Short : Clause → Type 0
Short c = (c.count ≡ 1) ⊎ (c.count ≡ 2)

same_short : (ty : StreamType) (s t : ℕ) → All Short (same_as ty s t)
same_short BoolType s t = (inr refl, (inr refl, tt))
same_short IntType s t = (inl refl, (inl refl, tt))

module _ (w : Valuation) where
  pub most_is : (x y : ℕ) → pattern_true w (most x y) ≡ le_z (w x) (w y)
  unfolding pattern_true
  most_is x y = go (le_z (w x) (w y)) refl
    where
      go : (t : Bool) → le_z (w x) (w y) ≡ t → le_z (difference (w x) (w y)) (pos 0) ≡ t
      go true e = grind (arith, ints)
      go false e = grind (arith, ints)

  pub less_is : (x y : ℕ) → pattern_true w (less x y) ≡ not (le_z (w y) (w x))
  unfolding pattern_true
  less_is x y = go (le_z (w y) (w x)) refl
    where
      go : (t : Bool) → le_z (w y) (w x) ≡ t → le_z (difference (w x) (w y)) (neg_ℤ (pos 1)) ≡ not t
      go true e = grind (arith, ints)
      go false e = grind (arith, ints)

  -- ---- one stream equal to another

  -- the one law over the type: a bool stream by its literals, an int stream by two constraints
  pub same_true : (ty : StreamType) (s t : ℕ) → w s ≡ w t → AllTrue w (same_as ty s t)
  unfolding clause_true pattern_true
  same_true BoolType s t e = go (truth (w t)) refl
    where
      go : (b : Bool) → truth (w t) ≡ b → AllTrue w (same_as BoolType s t)
      go true f = rw (e, f) (refl, (refl, tt))
      go false f = rw (e, f) (refl, (refl, tt))
  same_true IntType s t e =
      rw (most_is s t, most_is t s, e, le_z_self (w t)) (refl, (refl, tt))

  -- ---- a literal in front of a clause

  guarded_true : (p : Pattern) (c : Clause) → Short c → (pattern_true w p ≡ false → clause_true w c ≡ true) → clause_true w (guarded p c) ≡ true
  unfolding clause_true
  guarded_true p c short h = go (pattern_true w p) refl short
    where
      go : (t : Bool) → pattern_true w p ≡ t → Short c → clause_true w (guarded p c) ≡ true
      go true e n = rw e
      go false e (inl n) = rw (e, n) (sym (or-false _) ∙ (rw n at (h e)))
      go false e (inr n) = rw (e, n) (sym (or-false _) ∙ (rw n at (h e)))

  all_guarded : (p : Pattern) (cs : List Clause) → All Short cs → (pattern_true w p ≡ false → AllTrue w cs) → AllTrue w (map (guarded p) cs)
  all_guarded p [] short h = tt
  all_guarded p (c ∷ cs) short h =
      (guarded_true p c short.0 (λ e. (h e).0), all_guarded p cs short.1 (λ e. (h e).1))

  -- where the guard is false, the two streams are equal
  pub guarded_same : (ty : StreamType) (p : Pattern) (s t : ℕ) → (pattern_true w p ≡ false → w s ≡ w t) → AllTrue w (map (guarded p) (same_as ty s t))
  guarded_same ty p s t h = all_guarded p (same_as ty s t) (same_short ty s t) (λ e. same_true ty s t (h e))

  -- ---- one stream equal to a sum

  pub equal_true : (s : ℕ) (a : ℤ) (x : ℕ) (b : ℤ) (y : ℕ) (k : ℤ) → w s ≡ a *ℤ w x +ℤ b *ℤ w y +ℤ k → AllTrue w (equal_to s a x b y k)
  unfolding clause_true pattern_true
  equal_true s a x b y k e =
      rw (e, negℤ-*ℤ a (w x), negℤ-*ℤ b (w y), upper (a *ℤ w x) (b *ℤ w y) k, lower (a *ℤ w x) (b *ℤ w y) k)
      (refl, (refl, tt))
