-- The clauses of an equation whose constant is within ±1,000,000,000 have only small numbers.
-- Assumes nothing.
use mathlib.Core.Path.{◌≡◌, refl, subst}
use mathlib.Core.List.{List, [], ◌∷◌}
use mathlib.Core.Bool.{Bool, true, false, cond}
use Prim.Native.Nat.{ℕ, ◌≤◌}
use native.Mathlib.Omega.{arith}
use borrow.Author.Tests.{eq-eqb}
use lib.Dec.{eqb}
use lib.IntN.{ℤ, pos, neg_ℤ, nat_abs, ◌+ℤ◌}
use Rattle.std.proofs.lemmas.Int.{ints}
use Rattle.node.specs.declared.equation.StreamType.{StreamType}
use Rattle.node.specs.declared.equation.Equation.{Equation}
use Rattle.node.specs.Equations.{constant_of}
use Rattle.node.specs.Reads.{All, Read, reads}
use Rattle.rules.specs.declared.pattern.Clause.{Clause}
use Rattle.rules.specs.declared.pattern.Position.{Position}
use Rattle.rules.specs.Clauses.{linear, clauses, numbered}
use Rattle.rules.specs.Versions.{version2}
use Rattle.rules.proofs.ClauseLiterals.{Each, Made, Known, each_literal}
use Rattle.clauses.specs.Limits.{Small, SmallPattern}
use Rattle.clauses.proofs.Numbering.{number_has}
use Rattle.std.specs.Prelude.{IfSome, Some}

-- a constraint of ones and zeros
unit : (x y z : ℕ) (a b c bound : ℤ) → nat_abs a ≤ 1 → nat_abs b ≤ 1 → nat_abs c ≤ 1 → nat_abs bound ≤ 1 → Small (linear x a y b z c bound)
unit x y z a b c bound h k l m = record { a = h; b = omega arith; c = l; bound = omega arith; dropped = λ _. (k, m) }

-- a first variable that nothing is added to is not dropped
constant_small : (s : ℕ) (a bound : ℤ) → nat_abs a ≡ 1 → nat_abs bound ≤ 1000000000 → Small (linear s a s (pos 0) s (pos 0) bound)
constant_small s a bound one l =
    record {
      a = omega arith;
      b = omega arith;
      c = omega arith;
      bound = l;
      dropped = λ e. let f : a +ℤ pos 0 ≡ pos 0 = rw (eq-eqb s s refl) at e in absurd (omega (arith, ints));
    }

-- the first variable of a multiple is dropped by no constant but 1 or −1
multiple_small : (s x : ℕ) (a k : ℤ) → nat_abs a ≡ 1 → nat_abs k ≤ 1000000000 → Small (linear s a x k x (pos 0) (pos 0))
multiple_small s x a k one l =
    record {
      a = omega arith;
      b = l;
      c = omega arith;
      bound = omega arith;
      dropped = λ e. (go (eqb x s) refl (rw (eq-eqb s s refl) at e), omega arith);
    }
  where
    go : (t : Bool) → eqb x s ≡ t → a +ℤ cond t (k +ℤ cond t (pos 0) (pos 0)) (cond t (pos 0) (pos 0)) ≡ pos 0 → nat_abs k ≤ 1
    go true f e = omega (arith, ints)
    go false f e = omega (arith, ints)

module _ (s : ℕ) where
  made_small : Made SmallPattern (λ x. Unit {0}) (λ x. Unit {0}) (λ k. nat_abs k ≤ 1000000000) s
  made_small =
      record {
        own = tt;
        yes = λ x _. tt;
        no = λ x _. tt;
        at_most = λ x y _ _. unit x y x _ _ _ _ (omega arith) (omega arith) (omega arith) (omega arith);
        below = λ x y _ _. unit x y x _ _ _ _ (omega arith) (omega arith) (omega arith) (omega arith);
        constant = λ k l. (constant_small s (pos 1) k refl l, constant_small s (neg_ℤ (pos 1)) (neg_ℤ k) refl (omega (arith, ints)));
        sum =
            λ b l x y _ _. (
              unit s x y _ _ _ _ (omega arith) (omega arith) (omega (arith, ints)) (omega arith),
              unit s x y _ _ _ _ (omega arith) (omega arith) l (omega arith),
            );
        multiple = λ k l x _. (multiple_small s x (pos 1) (neg_ℤ k) refl (omega (arith, ints)), multiple_small s x (neg_ℤ (pos 1)) k refl l);
      }

-- every operand will do
any : (now back : ℕ → ℕ) (rs : List Read) → All (Known (λ x. Unit {0}) (λ x. Unit {0}) now back) rs
any now back [] = tt
any now back (r ∷ rs) = (record { at = tt; before = tt; needed = λ _. tt }, any now back rs)

pub small_clauses : (now back : ℕ → ℕ) (s : ℕ) (ty : StreamType) (e : Equation) (place : Position) → nat_abs (constant_of e) ≤ 1000000000 → All (Each SmallPattern) (clauses version2 ty e place now back s)
small_clauses now back s ty e place h = each_literal (made_small s) version2 now back ty e place h (any now back (reads e))

-- so has the clause of a number
pub small_named : (cs : List Clause) (r : ℕ) (c : Clause) → All (Each SmallPattern) cs → numbered cs r ≡ Some c → Each SmallPattern c
small_named cs r c h e = subst (λ o. IfSome o (Each SmallPattern)) e (number_has (Each SmallPattern) cs r h)
