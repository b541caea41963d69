-- An operator's constraint has 1 or −1 at its first variable, or no terms and a bound of 0 or −1.
-- Assumes nothing.
use mathlib.Core.Path.{◌≡◌, refl}
use mathlib.Core.Logic.{◌⊎◌, inl, inr}
use mathlib.Core.Bool.{Bool, true, false, cond}
use Prim.Native.Nat.{ℕ}
use borrow.Author.Tests.{eqb-true, eq-eqb, ne_eqb}
use lib.Dec.{eqb}
use lib.IntN.{ℤ, pos, neg_ℤ, ◌+ℤ◌}
use Rattle.constraints.specs.Linear.{coefficient}
use Rattle.rules.specs.declared.pattern.Linear.{Linear}
use Rattle.rules.specs.declared.pattern.Pattern.{Pattern}
use Rattle.rules.specs.declared.pattern.Pattern.TheVariants.{Yes, No, Most}
use Rattle.rules.specs.Clauses.{bounded_of, linear}
use Rattle.rules.proofs.ClauseLiterals.{Made}

-- the coefficient at the first variable
abbrev pub lead : Linear → ℤ
lead d = coefficient (bounded_of d).form d.x

pub data Leading (d : Linear) : Type 0 where
  plus : lead d ≡ pos 1 → Leading d
  minus : lead d ≡ neg_ℤ (pos 1) → Leading d
  none : ((x : ℕ) → coefficient (bounded_of d).form x ≡ pos 0) → (d.bound ≡ pos 0) ⊎ (d.bound ≡ neg_ℤ (pos 1)) → Leading d

abbrev pub LeadingLiteral : Pattern → Type 0
LeadingLiteral (Yes x) = Unit {0}
LeadingLiteral (No x) = Unit {0}
LeadingLiteral (Most d) = Leading d

-- x − x has no terms
vanishing : (x v : ℕ) → coefficient (bounded_of (linear x (pos 1) x (neg_ℤ (pos 1)) x (pos 0) (pos 0))).form v ≡ pos 0
vanishing x v = go (eqb x v)
  where
    go : (t : Bool) → cond t (pos 1 +ℤ cond t (neg_ℤ (pos 1) +ℤ cond t (pos 0 +ℤ pos 0) (pos 0)) (cond t (pos 0 +ℤ pos 0) (pos 0))) (cond t (neg_ℤ (pos 1) +ℤ cond t (pos 0 +ℤ pos 0) (pos 0)) (cond t (pos 0 +ℤ pos 0) (pos 0))) ≡ pos 0
    go true = refl
    go false = refl

-- x − y: "equal variables summed, zeros dropped"
difference_leads : (x y : ℕ) (bound : ℤ) → (bound ≡ pos 0) ⊎ (bound ≡ neg_ℤ (pos 1)) → Leading (linear x (pos 1) y (neg_ℤ (pos 1)) x (pos 0) bound)
difference_leads x y bound few = go (eqb y x) refl
  where
    go : (t : Bool) → eqb y x ≡ t → Leading (linear x (pos 1) y (neg_ℤ (pos 1)) x (pos 0) bound)
    go true e = none (λ v. rw (eqb-true y x e) (vanishing x v)) few
    go false e = plus (rw (eq-eqb x x refl, e))

module _ (s : ℕ) where
  abbrev Apart : ℕ → Type 0
  Apart x = x ≡ s → ⊥

  -- a·s + b·x + c·y, where neither is s
  apart_lead : (x y : ℕ) (a b c k : ℤ) → Apart x → Apart y → lead (linear s a x b y c k) ≡ a +ℤ pos 0
  apart_lead x y a b c k p q = rw (eq-eqb s s refl, ne_eqb x s p, ne_eqb y s q)

  pub made_leading : Made LeadingLiteral (λ x. Unit {0}) Apart (λ k. Unit {0}) s
  made_leading =
      record {
        own = tt;
        yes = λ x _. tt;
        no = λ x _. tt;
        at_most = λ x y _ _. difference_leads x y (pos 0) (inl refl);
        below = λ x y _ _. difference_leads x y (neg_ℤ (pos 1)) (inr refl);
        constant = λ k _. (plus (rw (eq-eqb s s refl)), minus (rw (eq-eqb s s refl)));
        sum = λ b _ x y p q. (
          plus (apart_lead x y (pos 1) (neg_ℤ (pos 1)) (neg_ℤ b) (pos 0) p q),
          minus (apart_lead x y (neg_ℤ (pos 1)) (pos 1) b (pos 0) p q),
        );
        multiple = λ k _ x p. (
          plus (apart_lead x x (pos 1) (neg_ℤ k) (pos 0) (pos 0) p p),
          minus (apart_lead x x (neg_ℤ (pos 1)) k (pos 0) (pos 0) p p),
        );
      }
