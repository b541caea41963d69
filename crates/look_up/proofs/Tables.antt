-- An answered value stored: the table stays true.
-- Assumes nothing.
use mathlib.Core.Path.{◌≡◌, refl, sym, ◌∙◌, ap, subst}
use mathlib.Core.Bool.{Bool, true, false}
use mathlib.Core.List.{List}
use Prim.Native.Nat.{ℕ, ◌+◌, ◌*◌, ◌<◌, ◌≤◌}
use native.Mathlib.Omega.{arith}
use lib.Dec.{eqb}
use lib.IntN.{ℤ}
use lib.ListN.{length, get_or, set, length-set}
use lib.Seq.{get_or-set_same, get_or-set_other}
use borrow.Author.Tests.{eqb-true, eqb-false}
use Rattle.integers.specs.Range.{inside}
use Rattle.node.specs.declared.equation.Equation.{Equation}
use Rattle.node.specs.declared.equation.Equation.TheVariants.{Input}
use Rattle.streams.specs.Solutions.{Streams}
use Rattle.look_up.specs.Visits.{first_visit, second_visit, To, value_at}
use Rattle.look_up.specs.Visited.{Equations, one, two, here, by_one, by_two, VisitedInside}
use Rattle.look_up.specs.Looking.{Outcome, Table}
use Rattle.streams.specs.Values.{truth}
use Rattle.std.specs.Prelude.{None, Option, Some}

module _ (es : Equations) (n k : ℕ) (v : Streams) (table : List (Option ℤ)) (t s : ℕ) (z : ℤ) where
  pub store : n ≤ 64 → k ≤ 16 → t < k → s < n → Table es n k v table → Outcome es v t s (Some z)
      → Table es n k v (set table (64 * t + s) (Some z))
  store small short early below is a =
      record {
        sized = length-set table (64 * t + s) (Some z) ∙ is.sized;
        kept = λ j r l m x e. go j r l m x e (eqb (64 * j + r) (64 * t + s)) refl;
        givens = λ j r l m i. given j r l m i (eqb (64 * j + r) (64 * t + s)) refl;
      }
    where
      stored : get_or (set table (64 * t + s) (Some z)) (64 * t + s) None ≡ Some z
      stored = get_or-set_same table (64 * t + s) (Some z) None (omega (arith, is.sized, small, short, early, below))

      go : (j r : ℕ) → j < k → r < n → (x : ℤ) → get_or (set table (64 * t + s) (Some z)) (64 * j + r) None ≡ Some x → (b : Bool) → eqb (64 * j + r) (64 * t + s) ≡ b → Outcome es v j r (Some x)
      go j r l m x e true p =
          let q : 64 * j + r ≡ 64 * t + s = eqb-true _ _ p in
          let tj : t ≡ j = omega arith in
          let sr : s ≡ r = omega arith in
          let same : z ≡ x = let both : Some z ≡ Some x = sym stored ∙ ap (λ (i : ℕ). get_or (set table (64 * t + s) (Some z)) i None) (sym q) ∙ e in cc in
          subst (λ (i : ℕ). Outcome es v i r (Some x)) tj
          (subst (λ (i : ℕ). Outcome es v t i (Some x)) sr
          (subst (λ (y : ℤ). Outcome es v t s (Some y)) same a))
      go j r l m x e false p =
          is.kept j r l m x (sym (get_or-set_other table (64 * t + s) (64 * j + r) (Some z) None (eqb-false _ _ p)) ∙ e)

      given : (j r : ℕ) → j < k → r < n → es r ≡ Input → (b : Bool) → eqb (64 * j + r) (64 * t + s) ≡ b → get_or (set table (64 * t + s) (Some z)) (64 * j + r) None ≡ Some (v j r)
      given j r l m i true p =
          let q : 64 * j + r ≡ 64 * t + s = eqb-true _ _ p in
          let tj : t ≡ j = omega arith in
          let sr : s ≡ r = omega arith in
          ap (λ (i : ℕ). get_or (set table (64 * t + s) (Some z)) i None) q ∙ stored
          ∙ subst (λ (i : ℕ). Some z ≡ Some (v i r)) tj (subst (λ (i : ℕ). Some z ≡ Some (v t i)) sr (ap Some a.0))
      given j r l m i false p = get_or-set_other table (64 * t + s) (64 * j + r) (Some z) None (eqb-false _ _ p) ∙ is.givens j r l m i

-- an input visits nothing
input_inside : (es : Equations) (v : Streams) (t s : ℕ) → es s ≡ Input → inside (v t s) ≡ true → VisitedInside es v t s
unfolding one two
input_inside es v t s i h j r here = h
input_inside es v t s i h j r (by_one {i = p} {q = q} to w) = absurd (subst (λ (e : Equation). To (first_visit e t) p q) i to)
input_inside es v t s i h j r (by_two {i = p} {q = q} to w) = absurd (subst (λ (e : Equation). To (second_visit e t (truth (value_at v (one es t s)))) p q) i to)

-- at the start just the inputs are known
pub start : (es : Equations) (n k : ℕ) (v : Streams) (table : List (Option ℤ)) → length table ≡ 1024
    → ((t s : ℕ) → t < k → s < n → es s ≡ Input → get_or table (64 * t + s) None ≡ Some (v t s))
    → ((t s : ℕ) → t < k → s < n → es s ≡ Input → inside (v t s) ≡ true)
    → ((t s : ℕ) → s < n → (x : ℤ) → get_or table (64 * t + s) None ≡ Some x → es s ≡ Input)
    → Table es n k v table
start es n k v table size given ranged alone =
    record {
      sized = size;
      kept = λ t s l m x e.
          let i = alone t s m x e in
          let both : Some x ≡ Some (v t s) = sym e ∙ given t s l m i in
          let same : x ≡ v t s = cc in
          (same, input_inside es v t s i (ranged t s l m i));
      givens = given;
    }
