-- The clause of a number, in two lists in a row, and by what each clause has.
-- Assumes nothing.
use mathlib.Core.Path.{◌≡◌, refl, sym, ap}
use mathlib.Core.List.{List, [], ◌∷◌, ◌++◌, map}
use Prim.Native.Nat.{ℕ, zero, suc, ◌+◌, ◌-◌, ◌≤◌, ◌<◌}
use native.Mathlib.Nat.{not-suc-le-zero, le_of_suc-le-suc}
use native.Mathlib.Omega.{arith}
use lib.IntN.{ℤ}
use lib.ListN.{length}
use Rattle.node.specs.Reads.{All}
use Rattle.node.specs.declared.equation.StreamType.{StreamType}
use Rattle.node.specs.declared.equation.StreamType.TheVariants.{Bool as BoolType, Int as IntType}
use Rattle.rules.specs.declared.pattern.Clause.{Clause}
use Rattle.rules.specs.declared.pattern.Pattern.{Pattern}
use Rattle.rules.specs.declared.pattern.Pattern.TheVariants.{Most}
use Rattle.rules.specs.Clauses.{linear, clause1, same_as, guarded, numbered}
use Rattle.std.specs.Prelude.{IfSome, option_map}
use Rattle.std.proofs.lemmas.Option.{slice_get-map}

-- a constraint as a clause
pub same_linear : {s x y : ℕ} {a b b' c c' k k' : ℤ} → b ≡ b' → c ≡ c' → k ≡ k' → clause1 (Most (linear s a x b y c k)) ≡ clause1 (Most (linear s a x b' y c' k'))
same_linear p q r = rw (p, q, r)

-- ---- a literal in front

-- two lists in a row, each with a literal of its own in front: a number is the first list's as far as that goes
module _ (p q : Pattern) (ds : List Clause) where
  pub guarded_first : (cs : List Clause) (r : ℕ) → r < length cs → option_map (guarded p) (numbered cs r) ≡ numbered (map (guarded p) cs ++ map (guarded q) ds) r
  guarded_first [] r l = absurd (not-suc-le-zero l)
  guarded_first (c ∷ cs) zero l = refl
  guarded_first (c ∷ cs) (suc r) l = guarded_first cs r (le_of_suc-le-suc l)

  pub guarded_then : (cs : List Clause) (r t : ℕ) → r ≡ length cs + t → option_map (guarded q) (numbered ds t) ≡ numbered (map (guarded p) cs ++ map (guarded q) ds) r
  guarded_then [] r t e = let f : r ≡ t = omega arith in rw f (sym (slice_get-map (guarded q) ds t))
  guarded_then (c ∷ cs) zero t e = absurd (omega arith)
  guarded_then (c ∷ cs) (suc r) t e = guarded_then cs r t (omega arith)

pub two_clauses : (ty : StreamType) (s t : ℕ) → length (same_as ty s t) ≡ 2
two_clauses BoolType s t = refl
two_clauses IntType s t = refl

past_two : (c d : Clause) (cs : List Clause) (r : ℕ) → 2 ≤ r → numbered (c ∷ d ∷ cs) r ≡ numbered cs (r - 2)
past_two c d cs zero l = absurd (omega arith)
past_two c d cs (suc zero) l = absurd (omega arith)
past_two c d cs (suc (suc r)) l = ap (numbered cs) (omega arith)

-- from number 2 on the clauses are the second branch's
pub second_branch : (p q : Pattern) (ty : StreamType) (s t : ℕ) (cs : List Clause) (r : ℕ) → 2 ≤ r → option_map (guarded q) (numbered cs (r - 2)) ≡ numbered (map (guarded p) (same_as ty s t) ++ map (guarded q) cs) r
second_branch p q BoolType s t cs r l = rw (past_two _ _ (map (guarded q) cs) r l) (sym (slice_get-map (guarded q) cs (r - 2)))
second_branch p q IntType s t cs r l = rw (past_two _ _ (map (guarded q) cs) r l) (sym (slice_get-map (guarded q) cs (r - 2)))

-- what each of a list has, the clause of a number has
pub number_has : (P : Clause → Type 0) (cs : List Clause) (r : ℕ) → All P cs → IfSome (numbered cs r) P
number_has P [] r h = tt
number_has P (c ∷ cs) zero h = h.0
number_has P (c ∷ cs) (suc r) h = number_has P cs r h.1

pub same_short : (ty : StreamType) (s t : ℕ) → All (λ c. c.count ≤ 2) (same_as ty s t)
same_short BoolType s t = (omega arith, (omega arith, tt))
same_short IntType s t = (omega arith, (omega arith, tt))
