-- What "compared by content" says: the same bound, and the same coefficient at every variable.
-- Assumes nothing.
use mathlib.Core.Path.{◌≡◌, refl, sym, ◌∙◌, subst}
use mathlib.Core.Logic.{◌⊎◌, inl, inr, ⊎_elim}
use mathlib.Core.List.{[], ◌∷◌}
use mathlib.Core.Bool.{Bool, true, false, ◌&&◌}
use Prim.Native.Nat.{ℕ}
use lib.Dec.{eqb}
use lib.IntN.{ℤ, pos}
use borrow.Author.Tests.{eqb-true}
use native.Mathlib.Omega.{arith}
use Rattle.std.proofs.lemmas.Int.{ints}
use Rattle.answers.proofs.Tests.{both_true}
use Rattle.constraints.specs.Linear.{Form, Bounded, coefficient, same_z, agree_at, same_content}

pub same_means : (a b : ℤ) → same_z a b ≡ true → a ≡ b
same_means a b e = grind (arith, ints)

pub same_test : (a b : ℤ) → a ≡ b → same_z a b ≡ true
same_test a b e = grind (arith, ints)

module _ (f g : Form) where
  -- at each variable they agree, or the list has none of it
  agree_or_none : (h : Form) (x : ℕ) → agree_at f g h ≡ true → (coefficient f x ≡ coefficient g x) ⊎ (coefficient h x ≡ pos 0)
  unfolding agree_at
  agree_or_none [] x e = inr refl
  agree_or_none (m ∷ ms) x e =
      let both = both_true (agree_at f g ms) (same_z (coefficient f m.of) (coefficient g m.of)) e in
      go (eqb m.of x) refl both.1 (agree_or_none ms x both.0)
    where
      go : (t : Bool) → eqb m.of x ≡ t → same_z (coefficient f m.of) (coefficient g m.of) ≡ true → (coefficient f x ≡ coefficient g x) ⊎ (coefficient ms x ≡ pos 0) → (coefficient f x ≡ coefficient g x) ⊎ (coefficient (m ∷ ms) x ≡ pos 0)
      go true p s rest =
          inl
          (subst
          (λ (y : ℕ). coefficient f y ≡ coefficient g y)
          (eqb-true m.of x p)
          (same_means (coefficient f m.of) (coefficient g m.of) s))
      go false p s rest = ⊎_elim (λ q. inl q) (λ q. inr (rw p q)) rest

  agree_everywhere : ((x : ℕ) → coefficient f x ≡ coefficient g x) → (h : Form) → agree_at f g h ≡ true
  unfolding agree_at
  agree_everywhere same [] = refl
  agree_everywhere same (m ∷ ms) = rw (agree_everywhere same ms) (same_test _ _ (same m.of))

module _ (c d : Bounded) where
  pub same_content_means : same_content c d ≡ true → (c.bound ≡ d.bound) × ((x : ℕ) → coefficient c.form x ≡ coefficient d.form x)
  unfolding same_content
  same_content_means e =
      let outer = both_true (same_z c.bound d.bound && agree_at c.form d.form c.form) (agree_at c.form d.form d.form) e in
      let inner = both_true (same_z c.bound d.bound) (agree_at c.form d.form c.form) outer.0 in (
        same_means c.bound d.bound inner.0,
        λ x.
            ⊎_elim
            (λ p. p)
            (λ p. ⊎_elim (λ q. q) (λ q. p ∙ sym q) (agree_or_none c.form d.form d.form x outer.1))
            (agree_or_none c.form d.form c.form x inner.1),
      )

  pub same_content_test : c.bound ≡ d.bound → ((x : ℕ) → coefficient c.form x ≡ coefficient d.form x) → same_content c d ≡ true
  unfolding same_content
  same_content_test e same =
      rw (
        same_test c.bound d.bound e,
        agree_everywhere c.form d.form same c.form,
        agree_everywhere c.form d.form same d.form,
      )
