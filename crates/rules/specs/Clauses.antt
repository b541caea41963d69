-- "Clauses, in order": what each operator's equation says of a window, one list of clauses an operator.
use Rattle.std.specs.Prelude.{ℕ, suc, List, [], ◌∷◌, ◌++◌, map, Bool, false, cond, ℤ, pos, neg_ℤ, Option, slice_get}
use Rattle.std.specs.Int.Signed.{le_z}
use Rattle.node.specs.declared.equation.StreamType.{StreamType}
use Rattle.node.specs.declared.equation.StreamType.TheVariants.{Bool as BoolType, Int as IntType}
use Rattle.node.specs.declared.equation.Equation.{Equation}
use Rattle.node.specs.declared.equation.Equation.TheVariants.{Input, Constant, Not, And, Or, Same, Sum, Difference, Multiple, AtMost, Equal, If, Arrow, FollowedBy, Lesser, Greater}
use Rattle.constraints.specs.Linear.{Bounded}
use Rattle.rules.specs.Versions.{Version}
use Rattle.rules.specs.declared.pattern.Linear.{Linear}
use Rattle.rules.specs.declared.pattern.Pattern.{Pattern}
use Rattle.rules.specs.declared.pattern.Pattern.TheVariants.{Yes, No, Most}
use Rattle.rules.specs.declared.pattern.Clause.{Clause}
use Rattle.rules.specs.declared.pattern.Position.{Position}
use Rattle.rules.specs.declared.pattern.Position.TheVariants.{Opening, Entry, Inner}

-- a·x + b·y + c·z is at most bound: "equal variables summed, zeros dropped" is what its coefficients are
abbrev pub linear : (x : ℕ) (a : ℤ) (y : ℕ) (b : ℤ) (z : ℕ) (c : ℤ) (bound : ℤ) → Linear
linear x a y b z c bound = record { x = x; a = a; y = y; b = b; z = z; c = c; bound = bound }

abbrev pub bounded_of : Linear → Bounded
bounded_of l =
    record {
      form =
          record { of = l.x; times = l.a } ∷ record { of = l.y; times = l.b } ∷ record { of = l.z; times = l.c } ∷ [];
      bound = l.bound;
    }

-- ""x ≤ y" is the constraint x − y at most 0"
abbrev pub most : (x y : ℕ) → Pattern
most x y = Most (linear x (pos 1) y (neg_ℤ (pos 1)) x (pos 0) (pos 0))

-- ""x < y" has bound −1"
abbrev pub less : (x y : ℕ) → Pattern
less x y = Most (linear x (pos 1) y (neg_ℤ (pos 1)) x (pos 0) (neg_ℤ (pos 1)))

abbrev pub clause1 : Pattern → Clause
clause1 p = record { count = 1; first = p; second = p; third = p }

abbrev pub clause2 : Pattern → Pattern → Clause
clause2 p q = record { count = 2; first = p; second = q; third = q }

abbrev pub clause3 : Pattern → Pattern → Pattern → Clause
clause3 p q r = record { count = 3; first = p; second = q; third = r }

-- "{s ≤ e} {e ≤ s}; constants go to the bound", with e = a·x + b·y + k
abbrev pub equal_to : (s : ℕ) (a : ℤ) (x : ℕ) (b : ℤ) (y : ℕ) (k : ℤ) → List Clause
equal_to s a x b y k =
    clause1 (Most (linear s (pos 1) x (neg_ℤ a) y (neg_ℤ b) k))
    ∷ clause1 (Most (linear s (neg_ℤ (pos 1)) x a y b (neg_ℤ k)))
    ∷ []

-- "{!s, t} {s, !t} or {s ≤ t} {t ≤ s}"
abbrev pub same_as : StreamType → (s t : ℕ) → List Clause
same_as BoolType s t = clause2 (No s) (Yes t) ∷ clause2 (Yes s) (No t) ∷ []
same_as IntType s t = clause1 (most s t) ∷ clause1 (most t s) ∷ []

-- a literal put in front of a clause of one or two
abbrev pub guarded : Pattern → Clause → Clause
guarded p c = record { count = suc c.count; first = p; second = c.first; third = c.second }

-- operators 12 and 13, "with t the operand chosen": at instant 0 the one stream, later the other; at the step's first offset the later
-- one or none
abbrev pub first_then : StreamType → Position → (enters : Bool) → (s first later : ℕ) → List Clause
first_then ty Opening enters s first later = same_as ty s first
first_then ty Entry enters s first later = cond enters (same_as ty s later) []
first_then ty Inner enters s first later = same_as ty s later

-- the clauses of stream s, by its equation: `now` is a stream at the same offset, `back` one lower
abbrev pub clauses : Version → StreamType → Equation → Position → (now back : ℕ → ℕ) → (s : ℕ) → List Clause
clauses version ty Input at now back s = []
clauses version BoolType (Constant k) at now back s = clause1 (cond (le_z k (pos 0)) (No s) (Yes s)) ∷ []
clauses version IntType (Constant k) at now back s = equal_to s (pos 0) s (pos 0) s k
clauses version ty (Not a) at now back s = clause2 (Yes s) (Yes (now a)) ∷ clause2 (No s) (No (now a)) ∷ []
clauses version ty (And a b) at now back s =
    clause2 (No s) (Yes (now a)) ∷ clause2 (No s) (Yes (now b)) ∷ clause3 (Yes s) (No (now a)) (No (now b)) ∷ []
clauses version ty (Or a b) at now back s =
    clause2 (Yes s) (No (now a)) ∷ clause2 (Yes s) (No (now b)) ∷ clause3 (No s) (Yes (now a)) (Yes (now b)) ∷ []
clauses version ty (Same a b) at now back s =
    clause3 (No s) (No (now a)) (Yes (now b))
    ∷ clause3 (No s) (Yes (now a)) (No (now b))
    ∷ clause3 (Yes s) (Yes (now a)) (Yes (now b))
    ∷ clause3 (Yes s) (No (now a)) (No (now b))
    ∷ []
clauses version ty (Sum a b) at now back s = equal_to s (pos 1) (now a) (pos 1) (now b) (pos 0)
clauses version ty (Difference a b) at now back s = equal_to s (pos 1) (now a) (neg_ℤ (pos 1)) (now b) (pos 0)
clauses version ty (Multiple k a) at now back s = equal_to s k (now a) (pos 0) (now a) (pos 0)
clauses version ty (AtMost a b) at now back s = clause2 (No s) (most (now a) (now b)) ∷ clause2 (Yes s) (less (now b) (now a)) ∷ []
clauses version ty (Equal a b) at now back s =
    clause2 (No s) (most (now a) (now b))
    ∷ clause2 (No s) (most (now b) (now a))
    ∷ clause3 (Yes s) (less (now a) (now b)) (less (now b) (now a))
    ∷ []
clauses version ty (If c a b) at now back s =
    map (guarded (No (now c))) (same_as ty s (now a)) ++ map (guarded (Yes (now c))) (same_as ty s (now b))
-- "operator 12 at step offset 0 takes b. Operator 13 still gives nothing there.": its b stands before the window
clauses version ty (Arrow a b) at now back s = first_then ty at version.after s (now a) (now b)
clauses version ty (FollowedBy a b) at now back s = first_then ty at false s (now a) (back b)
clauses version ty (Lesser a b) at now back s =
    clause1 (most s (now a)) ∷ clause1 (most s (now b)) ∷ clause2 (most (now a) s) (most (now b) s) ∷ []
clauses version ty (Greater a b) at now back s =
    clause1 (most (now a) s) ∷ clause1 (most (now b) s) ∷ clause2 (most s (now a)) (most s (now b)) ∷ []

-- "clause r, counted from 0"
abbrev pub numbered : List Clause → ℕ → Option Clause
numbered clauses r = slice_get clauses r
