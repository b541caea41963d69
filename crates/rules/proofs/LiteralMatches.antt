-- A literal that matches a clause's literal is true where that is: bools by their atom, constraints by their content, which is the
-- clause's times a whole number of at least 1.
-- Assumes nothing.
use mathlib.Core.Path.{◌≡◌, sym, ◌∙◌, ap, fun_ext}
use mathlib.Core.Bool.{true, false}
use Prim.Native.Nat.{ℕ, ◌/◌, ◌%◌, ◌<◌}
use native.Mathlib.Omega.{arith}
use borrow.Author.Tests.{eq-eqb, ne_eqb, lt-leb, not-true}
use lib.IntN.{ℤ, pos}
use Rattle.integers.proofs.Order.{le_z_true, *ℤ-mono}
use Rattle.streams.specs.Values.{truth}
use Rattle.constraints.specs.Layout.{Constraint}
use Rattle.constraints.specs.Linear.{Form, Bounded, coefficient, total, same_content, bounded_of as of_constraint}
use Rattle.constraints.proofs.Totals.{Below, below_scaled, dot, total_dot, total_scaled}
use Rattle.rules.specs.declared.pattern.Linear.{Linear}
use Rattle.rules.specs.declared.pattern.Pattern.{Pattern}
use Rattle.rules.specs.declared.pattern.Pattern.TheVariants.{Yes, No, Most}
use Rattle.rules.specs.Clauses.{bounded_of}
use Rattle.literals.specs.Literals.{positive, negative, atom_of, constraint_number}
use Rattle.rules.specs.Matching.{multiplied, MultipleOf, SaysMost, Matches}
use Rattle.rules.specs.Satisfaction.{Valuation, is_bounded, atom_true, literal_true, pattern_true}
use Rattle.rules.proofs.Contents.{same_content_means}
use Rattle.rules.proofs.ClausesNamed.{LiteralBelow}

-- ---- the same content, the same truth

-- forms with the same coefficients have the same value
pub total_same : (n : ℕ) (w : ℕ → ℤ) (f g : Form) → Below n f → Below n g → ((x : ℕ) → coefficient f x ≡ coefficient g x) → total f w ≡ total g w
total_same n w f g l m same =
    total_dot n w f l ∙ ap (λ (a : ℕ → ℤ). dot a n w) (fun_ext same) ∙ sym (total_dot n w g m)

pub same_bounded : (n : ℕ) (w : Valuation) (c d : Bounded) → Below n c.form → Below n d.form → same_content c d ≡ true → is_bounded w c ≡ is_bounded w d
same_bounded n w c d l m e =
    let same = same_content_means c d e in
    rw (total_same n w c.form d.form l m same.1, same.0)

-- a constraint times a whole number holds where it does
multiplied_bounded : (w : Valuation) (f : ℕ) (d : Bounded) → is_bounded w d ≡ true → is_bounded w (multiplied f d) ≡ true
multiplied_bounded w f d h =
    rw (total_scaled w (pos f) d.form)
    ((le_z_true _ _).1 (*ℤ-mono f (total d.form w) d.bound ((le_z_true (total d.form w) d.bound).0 h)))

pub multiple_bounded : (n : ℕ) (w : Valuation) (c d : Bounded) → Below n c.form → Below n d.form → MultipleOf d c → is_bounded w d ≡ true → is_bounded w c ≡ true
multiple_bounded n w c d l m of h =
    same_bounded n w c (multiplied of.factor d) l (below_scaled n (pos of.factor) d.form m) of.same
    ∙ multiplied_bounded w of.factor d h

-- ---- a literal by its sign and atom

module _ (constraints : ℕ → Constraint) (w : Valuation) where
  -- a bool stream's atom
  bool_atom : (x : ℕ) → x < 576 → atom_true constraints w x ≡ truth (w x)
  unfolding atom_true
  bool_atom x l = rw (lt-leb 576 x l)

  yes_true : (x l : ℕ) → x < 576 → l ≡ positive x → truth (w x) ≡ true → literal_true constraints w l ≡ true
  unfolding literal_true
  yes_true x l low is h =
      let atom : l / 2 ≡ x = omega arith in
      rw (ne_eqb (l % 2) 1 (omega arith), atom, bool_atom x low, h)

  no_true : (x l : ℕ) → x < 576 → l ≡ negative x → truth (w x) ≡ false → literal_true constraints w l ≡ true
  unfolding literal_true
  no_true x l low is h =
      let atom : l / 2 ≡ x = omega arith in
      rw (eq-eqb (l % 2) 1 (omega arith), atom, bool_atom x low, h)

  module _ (m : ℕ) (named : (i : ℕ) → i < m → Below 576 (of_constraint (constraints i)).form) where
    most_true : (d : Linear) (l : ℕ) → Below 576 (bounded_of d).form → SaysMost constraints m d l → is_bounded w (bounded_of d) ≡ true → literal_true constraints w l ≡ true
    unfolding literal_true atom_true
    most_true d l low says h =
        let i = constraint_number (atom_of l) in
        rw (says.unnegated, says.on_constraint)
        (multiple_bounded 576 w (of_constraint (constraints i)) (bounded_of d) (named i says.listed) low says.multiple h)

    pub matched_true : (p : Pattern) (l : ℕ) → LiteralBelow 576 p → Matches constraints m p l → pattern_true w p ≡ true → literal_true constraints w l ≡ true
    unfolding pattern_true
    matched_true (Yes x) l low e h = yes_true x l low e h
    matched_true (No x) l low e h = no_true x l low e (not-true (truth (w x)) h)
    matched_true (Most d) l low e h = most_true d l low e h
