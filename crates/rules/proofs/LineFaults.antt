-- Which rule a line breaks: what its number says, what a line keeps that breaks none, and the number by the line's kind.
-- Assumes nothing.
use mathlib.Core.Path.{◌≡◌, refl, sym, ◌∙◌}
use mathlib.Core.Bool.{Bool, true, false, cond, not, ◌||◌, false≢true}
use mathlib.Core.List.{List}
use Prim.Native.Nat.{ℕ}
use borrow.Author.Tests.{eqb-true, eq-eqb}
use lib.Dec.{eqb}
use Rattle.answers.specs.declared.Place.TheVariants.{Line as AtLine}
use Rattle.constraints.specs.Layout.{line_of}
use Rattle.rules.specs.Lines.{unless, of_kind, kind_fault}
use Rattle.rules.specs.Outcome.{LineMet, KindMet, FirstFailure, at_16, at_17, at_18, at_19, at_20, at_22}
use Rattle.rules.specs.Verdict.{shape_passes, EquationKept, equation_passes, property_passes, join_passes, arithmetic_passes, cut_passes, line_fault, line_passes}
use Rattle.rules.specs.Versions.{Version}
use Rattle.rules.proofs.Matches.{equation_test}

-- the number of a kind, where it breaks its rule
module _ (kind : ℕ) (equation property join arithmetic cut : Bool) where
  abbrev fault : ℕ
  fault = kind_fault kind equation property join arithmetic cut

  pub fault_1 : kind ≡ 1 → fault ≡ cond equation 0 17
  unfolding kind_fault
  fault_1 k = rw k

  pub fault_2 : kind ≡ 2 → fault ≡ cond property 0 18
  unfolding kind_fault
  fault_2 k = rw k

  pub fault_3 : kind ≡ 3 → fault ≡ cond join 0 19
  unfolding kind_fault
  fault_3 k = rw k

  pub fault_4 : kind ≡ 4 → fault ≡ cond arithmetic 0 20
  unfolding kind_fault
  fault_4 k = rw k

  pub fault_5 : kind ≡ 5 → fault ≡ cond cut 0 22
  unfolding kind_fault
  fault_5 k = rw k

by_unless : (P : ℕ → Type 0) (ok : Bool) (number rest : ℕ) → (ok ≡ false → P number) → (ok ≡ true → P rest) → P (unless ok number rest)
by_unless P true number rest f g = g refl
by_unless P false number rest f g = f refl

-- a kind's rule is broken by a line of that kind, and kept by all others
module _ (kind its : ℕ) (ok : Bool) where
  breaks : of_kind kind its ok ≡ false → (kind ≡ its) × (ok ≡ false)
  breaks e = go (eqb kind its) refl e
    where
      go : (t : Bool) → eqb kind its ≡ t → (not t || ok) ≡ false → (kind ≡ its) × (ok ≡ false)
      go true f e = (eqb-true kind its f, e)
      go false f e = absurd (false≢true (sym e))

  keeps : (kind ≡ its → ok ≡ true) → of_kind kind its ok ≡ true
  keeps h = go (eqb kind its) refl
    where
      go : (t : Bool) → eqb kind its ≡ t → (not t || ok) ≡ true
      go true f = h (eqb-true kind its f)
      go false f = refl

  kept : of_kind kind its ok ≡ true → kind ≡ its → ok ≡ true
  kept e k = rw (eq-eqb kind its k) at e

module _ (version : Version) (node cert : List ℕ) (i : ℕ) where
  abbrev kind_of : ℕ
  kind_of = (line_of cert i).head.kind

  pub record KindRules : Type 0 where
    pub equation : kind_of ≡ 1 → equation_passes version node cert i ≡ true
    pub property : kind_of ≡ 2 → property_passes version node cert i ≡ true
    pub join : kind_of ≡ 3 → join_passes cert i ≡ true
    pub arithmetic : kind_of ≡ 4 → arithmetic_passes cert i ≡ true
    pub cut : kind_of ≡ 5 → cut_passes cert i ≡ true

  -- the tests in a row
  by_line : (P : ℕ → Type 0)
      → (shape_passes node cert i ≡ false → P 16)
      → (shape_passes node cert i ≡ true → of_kind kind_of 1 (equation_passes version node cert i) ≡ false → P 17)
      → (shape_passes node cert i ≡ true → of_kind kind_of 2 (property_passes version node cert i) ≡ false → P 18)
      → (shape_passes node cert i ≡ true → of_kind kind_of 3 (join_passes cert i) ≡ false → P 19)
      → (shape_passes node cert i ≡ true → of_kind kind_of 4 (arithmetic_passes cert i) ≡ false → P 20)
      → (shape_passes node cert i ≡ true → of_kind kind_of 5 (cut_passes cert i) ≡ false → P 22)
      → (shape_passes node cert i ≡ true → KindRules → P 0)
      → P (line_fault version node cert i)
  unfolding line_fault kind_fault
  by_line P s e p j a c none =
      by_unless P (shape_passes node cert i) 16 _ s λ shape.
      by_unless P (of_kind kind_of 1 (equation_passes version node cert i)) 17 _ (e shape) λ e1.
      by_unless P (of_kind kind_of 2 (property_passes version node cert i)) 18 _ (p shape) λ e2.
      by_unless P (of_kind kind_of 3 (join_passes cert i)) 19 _ (j shape) λ e3.
      by_unless P (of_kind kind_of 4 (arithmetic_passes cert i)) 20 _ (a shape) λ e4.
      by_unless P (of_kind kind_of 5 (cut_passes cert i)) 22 _ (c shape) λ e5.
      none shape
      (record {
        equation = kept kind_of 1 _ e1;
        property = kept kind_of 2 _ e2;
        join = kept kind_of 3 _ e3;
        arithmetic = kept kind_of 4 _ e4;
        cut = kept kind_of 5 _ e5;
      })

  -- what a line keeps that breaks none
  pub line_kept : line_passes version node cert i ≡ true → (shape_passes node cert i ≡ true) × KindRules
  line_kept =
      by_line (λ n. eqb n 0 ≡ true → (shape_passes node cert i ≡ true) × KindRules) (λ _ z. absurd (false≢true z))
      (λ _ _ z. absurd (false≢true z)) (λ _ _ z. absurd (false≢true z)) (λ _ _ z. absurd (false≢true z)) (λ _ _ z. absurd (false≢true z))
      (λ _ _ z. absurd (false≢true z))
      (λ s r _. (s, r))

  pub line_passes_is : shape_passes node cert i ≡ true → KindRules → line_passes version node cert i ≡ true
  line_passes_is s r =
      by_line (λ n. eqb n 0 ≡ true) (λ f. absurd (false≢true (sym f ∙ s)))
      (λ _ f. absurd (false≢true (sym f ∙ keeps kind_of 1 _ r.equation)))
      (λ _ f. absurd (false≢true (sym f ∙ keeps kind_of 2 _ r.property)))
      (λ _ f. absurd (false≢true (sym f ∙ keeps kind_of 3 _ r.join)))
      (λ _ f. absurd (false≢true (sym f ∙ keeps kind_of 4 _ r.arithmetic)))
      (λ _ f. absurd (false≢true (sym f ∙ keeps kind_of 5 _ r.cut)))
      (λ _ _. refl)

  -- what the number says of a line that breaks one
  pub line_broken : LineMet version node cert i → line_passes version node cert i ≡ false → FirstFailure version node cert (line_fault version node cert i) (AtLine i)
  line_broken met =
      by_line (λ n. eqb n 0 ≡ false → FirstFailure version node cert n (AtLine i)) (λ f _. at_16 met f)
      (λ s f _. at_17 (of s (breaks kind_of 1 _ f).0) (not_kept (breaks kind_of 1 _ f).1))
      (λ s f _. at_18 (of s (breaks kind_of 2 _ f).0) (breaks kind_of 2 _ f).1)
      (λ s f _. at_19 (of s (breaks kind_of 3 _ f).0) (breaks kind_of 3 _ f).1)
      (λ s f _. at_20 (of s (breaks kind_of 4 _ f).0) (breaks kind_of 4 _ f).1)
      (λ s f _. at_22 (of s (breaks kind_of 5 _ f).0) (breaks kind_of 5 _ f).1)
      (λ _ _ z. absurd (false≢true (sym z)))
    where
      of : {kind : ℕ} → shape_passes node cert i ≡ true → kind_of ≡ kind → KindMet version node cert i kind
      of s k = record { met = met; shape = s; is = k }

      not_kept : equation_passes version node cert i ≡ false → ¬ EquationKept version node cert i
      not_kept f e = false≢true (sym f ∙ equation_test version node cert i met.before.node_rules e)
