-- A literal and its opposite: exactly one of the two is true in a window. What the literals of atoms say.
-- Assumes nothing.
use mathlib.Core.Path.{◌≡◌, refl, sym, ◌∙◌, ap, ap₂}
use mathlib.Core.Bool.{Bool, true, false, cond, not, not-not}
use Prim.Native.Nat.{ℕ, ◌+◌, ◌-◌, ◌*◌, ◌/◌, ◌%◌, ◌<◌}
use native.Mathlib.Omega.{arith}
use borrow.Author.Tests.{eqb-true, eqb-false, eq-eqb, ne_eqb, lt-leb}
use Rattle.streams.specs.Values.{truth}
use Rattle.constraints.specs.Layout.{Constraint}
use Rattle.literals.specs.Literals.{positive, negative, atom_of, is_negated, opposite_of}
use Rattle.rules.specs.Satisfaction.{Valuation, atom_true, literal_true}

-- ---- the opposite has the same atom and the other sign

pub opposite_atom : (l : ℕ) → atom_of (opposite_of l) ≡ atom_of l
opposite_atom l = go (is_negated l) refl
  where
    go : (b : Bool) → is_negated l ≡ b → cond b (l - 1) (l + 1) / 2 ≡ l / 2
    go true e = omega (arith, eqb-true (l % 2) 1 e)
    go false e = omega (arith, eqb-false (l % 2) 1 e)

pub opposite_sign : (l : ℕ) → is_negated (opposite_of l) ≡ not (is_negated l)
opposite_sign l = go (is_negated l) refl
  where
    go : (b : Bool) → is_negated l ≡ b → is_negated (cond b (l - 1) (l + 1)) ≡ not b
    go true e =
        let odd = eqb-true (l % 2) 1 e in
        ne_eqb ((l - 1) % 2) 1 (λ (f : (l - 1) % 2 ≡ 1). omega (arith, odd))
    go false e =
        let even = eqb-false (l % 2) 1 e in
        eq-eqb ((l + 1) % 2) 1 (omega (arith, even))

-- ---- the literals of an atom

pub negative_atom : (a : ℕ) → atom_of (negative a) ≡ a
negative_atom a = omega arith

pub negative_sign : (a : ℕ) → is_negated (negative a) ≡ true
negative_sign a = eq-eqb ((2 * a + 1) % 2) 1 (omega arith)

pub positive_atom : (a : ℕ) → atom_of (positive a) ≡ a
positive_atom a = omega arith

pub positive_sign : (a : ℕ) → is_negated (positive a) ≡ false
positive_sign a = ne_eqb ((2 * a) % 2) 1 (λ (f : (2 * a) % 2 ≡ 1). omega arith)

-- ---- their truth

module _ (constraints : ℕ → Constraint) (w : Valuation) where
  -- a literal's truth by its sign and that of its atom
  abbrev signed : (is_negated atom : Bool) → Bool
  signed t a = cond t (not a) a

  other_sign : (t a : Bool) → signed (not t) a ≡ not (signed t a)
  other_sign true a = sym (not-not a)
  other_sign false a = refl

  pub opposite_true : (l : ℕ) → literal_true constraints w (opposite_of l) ≡ not (literal_true constraints w l)
  unfolding literal_true
  opposite_true l =
      ap₂ (λ (t : Bool) (a : ℕ). signed t (atom_true constraints w a)) (opposite_sign l) (opposite_atom l)
      ∙ other_sign (is_negated l) (atom_true constraints w (atom_of l))

  -- the atom of a bool stream at an offset
  pub stream_true : (a : ℕ) → a < 576 → atom_true constraints w a ≡ truth (w a)
  unfolding atom_true
  stream_true a l = rw (lt-leb 576 a l)

  pub negative_true : (a : ℕ) → a < 576 → literal_true constraints w (negative a) ≡ not (truth (w a))
  unfolding literal_true
  negative_true a l =
      ap₂ (λ (t : Bool) (b : ℕ). signed t (atom_true constraints w b)) (negative_sign a) (negative_atom a)
      ∙ ap not (stream_true a l)

  pub positive_true : (a : ℕ) → a < 576 → literal_true constraints w (positive a) ≡ truth (w a)
  unfolding literal_true
  positive_true a l =
      ap₂ (λ (t : Bool) (b : ℕ). signed t (atom_true constraints w b)) (positive_sign a) (positive_atom a)
      ∙ stream_true a l
