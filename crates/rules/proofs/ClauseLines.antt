-- A line whose literals are those of a true clause is satisfied.
-- Assumes nothing.
use mathlib.Core.Path.{◌≡◌}
use mathlib.Core.Logic.{◌⊎◌, inl, inr}
use mathlib.Core.List.{List, [], ◌∷◌}
use mathlib.Core.Bool.{true, not, ◌&&◌, ◌||◌}
use Prim.Native.Nat.{ℕ, zero, suc, ◌≤◌, ◌<◌}
use native.Mathlib.Omega.{arith}
use borrow.Author.Tests.{leb-false, not-true}
use lib.Dec.{leb}
use Rattle.answers.proofs.Tests.{both_true, either_true}
use Rattle.node.specs.Reads.{All}
use Rattle.constraints.specs.Layout.{Constraint, Line}
use Rattle.constraints.specs.Linear.{bounded_of as of_constraint}
use Rattle.constraints.proofs.Blocks.{is_listed_is}
use Rattle.constraints.proofs.Totals.{Below}
use Rattle.rules.specs.declared.pattern.Clause.{Clause}
use Rattle.rules.specs.declared.pattern.Pattern.{Pattern}
use Rattle.rules.specs.Clauses.{numbered}
use Rattle.rules.specs.Equations.{LiteralsEqual, EqualNamed}
use Rattle.rules.specs.Matching.{Matches}
use Rattle.rules.specs.Satisfaction.{Valuation, pattern_true, clause_true, Satisfies}
use Rattle.rules.proofs.ClauseForms.{AllTrue}
use Rattle.rules.proofs.ClausesNamed.{LiteralBelow, ClauseBelow}
use Rattle.rules.proofs.LiteralMatches.{matched_true}

-- a second or third literal that the clause has
past : (k j : ℕ) → not (leb k j) ≡ true → j < k
past k j e = leb-false k j (not-true (leb k j) e)

module _ (constraints : ℕ → Constraint) (w : Valuation) (m : ℕ) (named : (i : ℕ) → i < m → Below 576 (of_constraint (constraints i)).form) (line : Line) where
  -- literal j of the line is true, where it matches a true one of the clause
  by_literal : (c : Clause) (j : ℕ) (p : Pattern)
      → line.head.count ≡ c.count → j < c.count → j ≤ 2 → LiteralBelow 576 p
      → Matches constraints m p (line.literal j) → pattern_true w p ≡ true → Satisfies constraints w line
  by_literal c j p count l few low e h =
      record { which = j; listed = is_listed_is line j (rw count l) (omega arith); holds = matched_true constraints w m named p (line.literal j) low e h }

  -- the same of the second and third, which a short clause lacks
  by_later : (c : Clause) (j : ℕ) (p : Pattern)
      → line.head.count ≡ c.count → j ≤ 2 → LiteralBelow 576 p
      → (j < c.count → Matches constraints m p (line.literal j))
      → (not (leb c.count j) && pattern_true w p) ≡ true → Satisfies constraints w line
  by_later c j p count few low e h =
      let both = both_true (not (leb c.count j)) (pattern_true w p) h in
      let l = past c.count j both.0 in
      by_literal c j p count l few low (e l) both.1

  clause_satisfied : (c : Clause) → ClauseBelow 576 c → LiteralsEqual constraints m line c → clause_true w c ≡ true → Satisfies constraints w line
  unfolding clause_true
  clause_satisfied c low e h = go (either_true _ _ h)
    where
      early : (pattern_true w c.first ≡ true) ⊎ ((not (leb c.count 1) && pattern_true w c.second) ≡ true) → Satisfies constraints w line
      early (inl f) = by_literal c 0 c.first e.count low.some (omega arith) low.first e.first f
      early (inr f) = by_later c 1 c.second e.count (omega arith) low.second e.second f

      go : ((pattern_true w c.first || not (leb c.count 1) && pattern_true w c.second) ≡ true) ⊎ ((not (leb c.count 2) && pattern_true w c.third) ≡ true) → Satisfies constraints w line
      go (inl f) = early (either_true _ _ f)
      go (inr f) = by_later c 2 c.third e.count (omega arith) low.third e.third f

  -- "clause r, counted from 0": any clause of a list will do, if all are true
  pub numbered_satisfied : (cs : List Clause) (r : ℕ) → All (ClauseBelow 576) cs → AllTrue w cs → EqualNamed constraints m line (numbered cs r) → Satisfies constraints w line
  numbered_satisfied [] r low h e = absurd e
  numbered_satisfied (c ∷ cs) zero low h e = clause_satisfied c low.0 e h.0
  numbered_satisfied (c ∷ cs) (suc r) low h e = numbered_satisfied cs r low.1 h.1 e
