-- `matching::is_clause` meets its contract: the tests in a row, up to the clause's end.
use mathlib.Core.Path.{◌≡◌, ◌∙◌, ap}
use mathlib.Core.Bool.{Bool, true, false, ◌&&◌, ◌||◌}
use mathlib.Core.List.{List}
use Prim.Native.Nat.{ℕ, ◌<◌, ◌≤◌}
use native.Mathlib.Omega.{arith}
use borrow.Author.Tests.{le-leb, lt-leb}
use lib.Dec.{eqb, leb}
use Rattle.constraints.specs.Layout.{line_head_at, literal_at, constraints_from}
use Rattle.rules.specs.declared.pattern.Pattern.{Pattern}
use Rattle.rules.specs.Factors.{matches_of}
use Rattle.rules.specs.Lines.{clause_is}
use Rattle.matching.proofs.clause.is_clause.Goals as goal

-- the tests of a clause: of its count and first literal, of the second and of the third
module _ (count : ℕ) (first second third : Bool) where
  abbrev tests : Bool
  tests = first && (leb count 1 || second) && (leb count 2 || third)

  module _ (e : first ≡ true) where
    ends_at_one : count ≤ 1 → true ≡ tests
    ends_at_one l = rw (e, le-leb count 1 l, le-leb count 2 (omega arith))

    module _ (l : 1 < count) where
      second_fails : second ≡ false → false ≡ tests
      second_fails f = rw (e, lt-leb count 1 l, f)

      module _ (f : second ≡ true) where
        ends_at_two : count ≤ 2 → true ≡ tests
        ends_at_two k = rw (e, lt-leb count 1 l, f, le-leb count 2 k)

        third_is : 2 < count → third ≡ tests
        third_is k = rw (e, lt-leb count 1 l, f, lt-leb count 2 k)

-- literal j of the line matches a pattern
abbrev matches_at : (cert : List ℕ) → (start m at : ℕ) → Pattern → (j : ℕ) → Bool
matches_at cert start m at p j = matches_of (constraints_from cert start) m p (literal_at cert at j)

pub returns-then-not-count-c : goal.returns-then-not-count-c
unfolding clause_is
returns-then-not-count-c c =
    let first_is : (let a = c.args in (eqb (line_head_at a.cert.now a.at).count a.c.count && matches_at a.cert.now a.start a.m a.at a.c.first 0) ≡ (eqb c.line_head-count.result.count a.c.count && c.matches.result)) = rw (c.matches.ensures, c.literal_at.ensures, c.line_head-count.ensures) in
    rw (first_is ∙ c.if-not-count-c.true)

pub returns-then-c-le1 : goal.returns-then-c-le1
unfolding clause_is
returns-then-c-le1 c =
    let first_is : (let a = c.args in (eqb (line_head_at a.cert.now a.at).count a.c.count && matches_at a.cert.now a.start a.m a.at a.c.first 0) ≡ (eqb c.line_head-count.result.count a.c.count && c.matches.result)) = rw (c.matches.ensures, c.literal_at.ensures, c.line_head-count.ensures) in
    let passed : (let a = c.args in (eqb (line_head_at a.cert.now a.at).count a.c.count && matches_at a.cert.now a.start a.m a.at a.c.first 0) ≡ true) = first_is ∙ c.if-not-count-c.false in
    ends_at_one _ _ _ _ passed c.if-c-le1.true

pub returns-then-not-matches : goal.returns-then-not-matches
unfolding clause_is
returns-then-not-matches c =
    let first_is : (let a = c.args in (eqb (line_head_at a.cert.now a.at).count a.c.count && matches_at a.cert.now a.start a.m a.at a.c.first 0) ≡ (eqb c.line_head-count.result.count a.c.count && c.matches.result)) = rw (c.matches.ensures, c.literal_at.ensures, c.line_head-count.ensures) in
    let second_is : (let a = c.args in matches_at a.cert.now a.start a.m a.at a.c.second 1 ≡ c.matches-2.result) = rw (c.matches-2.ensures, c.literal_at-2.ensures) in
    let passed : (let a = c.args in (eqb (line_head_at a.cert.now a.at).count a.c.count && matches_at a.cert.now a.start a.m a.at a.c.first 0) ≡ true) = first_is ∙ c.if-not-count-c.false in
    second_fails _ _ _ _ passed c.if-c-le1.false (second_is ∙ c.if-not-matches.true)

pub returns-then-c-le2 : goal.returns-then-c-le2
unfolding clause_is
returns-then-c-le2 c =
    let first_is : (let a = c.args in (eqb (line_head_at a.cert.now a.at).count a.c.count && matches_at a.cert.now a.start a.m a.at a.c.first 0) ≡ (eqb c.line_head-count.result.count a.c.count && c.matches.result)) = rw (c.matches.ensures, c.literal_at.ensures, c.line_head-count.ensures) in
    let second_is : (let a = c.args in matches_at a.cert.now a.start a.m a.at a.c.second 1 ≡ c.matches-2.result) = rw (c.matches-2.ensures, c.literal_at-2.ensures) in
    let passed : (let a = c.args in (eqb (line_head_at a.cert.now a.at).count a.c.count && matches_at a.cert.now a.start a.m a.at a.c.first 0) ≡ true) = first_is ∙ c.if-not-count-c.false in
    ends_at_two _ _ _ _ passed c.if-c-le1.false (second_is ∙ c.if-not-matches.false) c.if-c-le2.true

pub returns : goal.returns
unfolding clause_is
returns c =
    let first_is : (let a = c.args in (eqb (line_head_at a.cert.now a.at).count a.c.count && matches_at a.cert.now a.start a.m a.at a.c.first 0) ≡ (eqb c.line_head-count.result.count a.c.count && c.matches.result)) = rw (c.matches.ensures, c.literal_at.ensures, c.line_head-count.ensures) in
    let second_is : (let a = c.args in matches_at a.cert.now a.start a.m a.at a.c.second 1 ≡ c.matches-2.result) = rw (c.matches-2.ensures, c.literal_at-2.ensures) in
    let passed : (let a = c.args in (eqb (line_head_at a.cert.now a.at).count a.c.count && matches_at a.cert.now a.start a.m a.at a.c.first 0) ≡ true) = first_is ∙ c.if-not-count-c.false in
    let a = c.args in
    c.matches-3.ensures
    ∙ ap (matches_of (constraints_from a.cert.now a.start) a.m a.c.third) c.literal_at-3.ensures
    ∙ third_is _ _ _ _ passed c.if-c-le1.false (second_is ∙ c.if-not-matches.false) c.if-c-le2.false
