-- What each literal of an operator's clauses has: one walk over the operators, for whatever is asked of literals.
-- Assumes nothing.
use mathlib.Core.Path.{◌≡◌, refl}
use mathlib.Core.List.{map}
use mathlib.Core.Bool.{Bool, true, false, cond}
use Prim.Native.Nat.{ℕ, ◌≤◌}
use native.Mathlib.Omega.{arith}
use lib.IntN.{ℤ, pos, neg_ℤ, nat_abs}
use lib.Signed.{le_z}
use Rattle.node.specs.declared.equation.StreamType.{StreamType}
use Rattle.node.specs.declared.equation.StreamType.TheVariants.{Bool as BoolType, Int as IntType}
use Rattle.node.specs.declared.equation.Equation.{Equation}
use Rattle.node.specs.declared.equation.Equation.TheVariants.{Input, Constant, Not, And, Or, Same, Sum, Difference, Multiple, AtMost, Equal, If, Arrow, FollowedBy, Lesser, Greater}
use Rattle.node.specs.Equations.{constant_of}
use Rattle.node.specs.Reads.{All, Read, row_for, reads}
use Rattle.node.specs.Table.{row_of}
use Rattle.node.proofs.Needs.{all_append}
use Rattle.rules.specs.declared.pattern.Clause.{Clause}
use Rattle.rules.specs.declared.pattern.Pattern.{Pattern}
use Rattle.rules.specs.declared.pattern.Pattern.TheVariants.{Yes, No, Most}
use Rattle.rules.specs.declared.pattern.Position.{Position}
use Rattle.rules.specs.declared.pattern.Position.TheVariants.{Opening, Entry, Inner}
use Rattle.rules.specs.Clauses.{linear, most, less, clause1, clause2, clause3, equal_to, same_as, guarded, first_then, clauses}
use Rattle.rules.specs.Versions.{Version}
use Rattle.rules.proofs.ClauseForms.{all_map}

-- a clause of at least one literal, each of which has Q
pub record Each (Q : Pattern → Type 0) (c : Clause) : Type 0 where
  pub some : 1 ≤ c.count
  pub first : Q c.first
  pub second : Q c.second
  pub third : Q c.third

-- the two constraints of "{s ≤ e} {e ≤ s}", with e = a·x + b·y + k
abbrev pub Both : (Pattern → Type 0) → (s : ℕ) (a : ℤ) (x : ℕ) (b : ℤ) (y : ℕ) (k : ℤ) → Type 0
Both Q s a x b y k =
    Q (Most (linear s (pos 1) x (neg_ℤ a) y (neg_ℤ b) k)) × Q (Most (linear s (neg_ℤ (pos 1)) x a y b (neg_ℤ k)))

-- what makes the literals of the clauses of stream s have Q: P is known of every variable, N of those of operands needed now, K of
-- the constant
pub record Made (Q : Pattern → Type 0) (P N : ℕ → Type 0) (K : ℤ → Type 0) (s : ℕ) : Type 0 where
  pub own : P s
  pub yes : (x : ℕ) → P x → Q (Yes x)
  pub no : (x : ℕ) → P x → Q (No x)
  pub at_most : (x y : ℕ) → P x → P y → Q (most x y)
  pub below : (x y : ℕ) → P x → P y → Q (less x y)
  pub constant : (k : ℤ) → K k → Both Q s (pos 0) s (pos 0) s k
  pub sum : (b : ℤ) → nat_abs b ≤ 1 → (x y : ℕ) → N x → N y → Both Q s (pos 1) x b y (pos 0)
  pub multiple : (k : ℤ) → K k → (x : ℕ) → N x → Both Q s k x (pos 0) x (pos 0)

-- an operand, at the offset of the stream and one lower
pub record Known (P N : ℕ → Type 0) (now back : ℕ → ℕ) (r : Read) : Type 0 where
  pub at : P (now r.stream)
  pub before : P (back r.stream)
  pub needed : r.now ≡ true → N (now r.stream)

module _ {Q : Pattern → Type 0} where
  -- ---- the forms of clauses

  one : (p : Pattern) → Q p → Each Q (clause1 p)
  one p l = record { some = omega arith; first = l; second = l; third = l }

  two : (p q : Pattern) → Q p → Q q → Each Q (clause2 p q)
  two p q l m = record { some = omega arith; first = l; second = m; third = m }

  three : (p q r : Pattern) → Q p → Q q → Q r → Each Q (clause3 p q r)
  three p q r l m o = record { some = omega arith; first = l; second = m; third = o }

  equals : {s : ℕ} {a : ℤ} {x : ℕ} {b : ℤ} {y : ℕ} {k : ℤ} → Both Q s a x b y k → All (Each Q) (equal_to s a x b y k)
  equals q = (one _ q.0, (one _ q.1, tt))

  module _ {P N : ℕ → Type 0} {K : ℤ → Type 0} {s : ℕ} (made : Made Q P N K s) where
    same : (ty : StreamType) (t : ℕ) → P t → All (Each Q) (same_as ty s t)
    same BoolType t v = (
      two (No s) (Yes t) (made.no s made.own) (made.yes t v),
      (two (Yes s) (No t) (made.yes s made.own) (made.no t v), tt),
    )
    same IntType t v = (
      one (most s t) (made.at_most s t made.own v),
      (one (most t s) (made.at_most t s v made.own), tt),
    )

    guarded_same : (ty : StreamType) (p : Pattern) (t : ℕ) → Q p → P t → All (Each Q) (map (guarded p) (same_as ty s t))
    guarded_same ty p t q v =
        all_map (Each Q) (Each Q) (guarded p)
        (λ c e. record { some = omega arith; first = q; second = e.first; third = e.second })
        (same_as ty s t) (same ty t v)

    first_then_is : (ty : StreamType) (place : Position) (enters : Bool) (x y : ℕ) → P x → P y → All (Each Q) (first_then ty place enters s x y)
    first_then_is ty Opening enters x y v w = same ty x v
    first_then_is ty Entry true x y v w = same ty y w
    first_then_is ty Entry false x y v w = tt
    first_then_is ty Inner enters x y v w = same ty y w

    constants : (version : Version) (ty : StreamType) (k : ℤ) (place : Position) (now back : ℕ → ℕ) → K k → All (Each Q) (clauses version ty (Constant k) place now back s)
    constants version BoolType k place now back l = (one _ (go (le_z k (pos 0))), tt)
      where
        go : (t : Bool) → Q (cond t (No s) (Yes s))
        go true = made.no s made.own
        go false = made.yes s made.own
    constants version IntType k place now back l = equals (made.constant k l)

    -- ---- the operators

    pub each_literal :
        (version : Version) (now back : ℕ → ℕ) (ty : StreamType) (e : Equation) (place : Position)
        → K (constant_of e) → All (Known P N now back) (reads e) → All (Each Q) (clauses version ty e place now back s)
    unfolding row_of row_for reads
    each_literal version now back ty Input place k r = tt
    each_literal version now back ty (Constant z) place k r = constants version ty z place now back k
    each_literal version now back ty (Not a) place k r =
        let u = r.0.at in (
          two (Yes s) (Yes (now a)) (made.yes s made.own) (made.yes _ u),
          (two (No s) (No (now a)) (made.no s made.own) (made.no _ u), tt),
        )
    each_literal version now back ty (And a b) place k r =
        let u = r.0.at in
        let v = r.1.0.at in (
          two (No s) (Yes (now a)) (made.no s made.own) (made.yes _ u),
          (
            two (No s) (Yes (now b)) (made.no s made.own) (made.yes _ v),
            (three (Yes s) (No (now a)) (No (now b)) (made.yes s made.own) (made.no _ u) (made.no _ v), tt),
          ),
        )
    each_literal version now back ty (Or a b) place k r =
        let u = r.0.at in
        let v = r.1.0.at in (
          two (Yes s) (No (now a)) (made.yes s made.own) (made.no _ u),
          (
            two (Yes s) (No (now b)) (made.yes s made.own) (made.no _ v),
            (three (No s) (Yes (now a)) (Yes (now b)) (made.no s made.own) (made.yes _ u) (made.yes _ v), tt),
          ),
        )
    each_literal version now back ty (Same a b) place k r =
        let u = r.0.at in
        let v = r.1.0.at in (
          three (No s) (No (now a)) (Yes (now b)) (made.no s made.own) (made.no _ u) (made.yes _ v),
          (
            three (No s) (Yes (now a)) (No (now b)) (made.no s made.own) (made.yes _ u) (made.no _ v),
            (
              three (Yes s) (Yes (now a)) (Yes (now b)) (made.yes s made.own) (made.yes _ u) (made.yes _ v),
              (three (Yes s) (No (now a)) (No (now b)) (made.yes s made.own) (made.no _ u) (made.no _ v), tt),
            ),
          ),
        )
    each_literal version now back ty (Sum a b) place k r =
        equals (made.sum (pos 1) (omega arith) (now a) (now b) (r.0.needed refl) (r.1.0.needed refl))
    each_literal version now back ty (Difference a b) place k r =
        equals (made.sum (neg_ℤ (pos 1)) (omega arith) (now a) (now b) (r.0.needed refl) (r.1.0.needed refl))
    each_literal version now back ty (Multiple z a) place k r = equals (made.multiple z k (now a) (r.0.needed refl))
    each_literal version now back ty (AtMost a b) place k r =
        let u = r.0.at in
        let v = r.1.0.at in (
          two (No s) (most (now a) (now b)) (made.no s made.own) (made.at_most _ _ u v),
          (two (Yes s) (less (now b) (now a)) (made.yes s made.own) (made.below _ _ v u), tt),
        )
    each_literal version now back ty (Equal a b) place k r =
        let u = r.0.at in
        let v = r.1.0.at in (
          two (No s) (most (now a) (now b)) (made.no s made.own) (made.at_most _ _ u v),
          (
            two (No s) (most (now b) (now a)) (made.no s made.own) (made.at_most _ _ v u),
            (
              three (Yes s) (less (now a) (now b)) (less (now b) (now a)) (made.yes s made.own) (made.below _ _ u v) (made.below _ _ v u),
              tt,
            ),
          ),
        )
    each_literal version now back ty (If c a b) place k r =
        let w = r.1.1.0.at in
        all_append _ (map (guarded (No (now c))) (same_as ty s (now a))) (map (guarded (Yes (now c))) (same_as ty s (now b)))
        (guarded_same ty (No (now c)) (now a) (made.no _ w) r.0.at)
        (guarded_same ty (Yes (now c)) (now b) (made.yes _ w) r.1.0.at)
    each_literal version now back ty (Arrow a b) place k r = first_then_is ty place version.after (now a) (now b) r.0.at r.1.0.at
    each_literal version now back ty (FollowedBy a b) place k r = first_then_is ty place false (now a) (back b) r.0.at r.1.0.before
    each_literal version now back ty (Lesser a b) place k r =
        let u = r.0.at in
        let v = r.1.0.at in (
          one (most s (now a)) (made.at_most _ _ made.own u),
          (
            one (most s (now b)) (made.at_most _ _ made.own v),
            (two (most (now a) s) (most (now b) s) (made.at_most _ _ u made.own) (made.at_most _ _ v made.own), tt),
          ),
        )
    each_literal version now back ty (Greater a b) place k r =
        let u = r.0.at in
        let v = r.1.0.at in (
          one (most (now a) s) (made.at_most _ _ u made.own),
          (
            one (most (now b) s) (made.at_most _ _ v made.own),
            (two (most s (now a)) (most s (now b)) (made.at_most _ _ made.own u) (made.at_most _ _ made.own v), tt),
          ),
        )
