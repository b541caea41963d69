-- A part with an empty line refutes its premises: where a window satisfies the part's equation, property and arithmetic lines and
-- its cuts, it satisfies every line of the part, and no window satisfies a line without literals. The argument is one for base and step.
-- Assumes nothing.
use mathlib.Core.Path.{◌≡◌, refl, sym, ◌∙◌}
use mathlib.Core.Bool.{Bool, true, false, not, ◌&&◌, false≢true}
use Prim.Native.Nat.{ℕ, zero, suc, ◌+◌, ◌-◌, ◌<◌, ◌≤◌}
use native.Mathlib.Nat.{not-suc-le-zero, le_refl}
use native.Mathlib.Omega.{arith}
use borrow.Author.Tests.{leb-true, ltb-true, eqb-true, eqb-false, ne_eqb, not-true}
use lib.Dec.{leb, ltb, eqb}
use Rattle.answers.specs.Checks.{every}
use Rattle.answers.proofs.Every.{every_of}
use Rattle.answers.proofs.Tests.{both_true}
use Rattle.constraints.specs.Layout.{Constraint, Line}
use Rattle.constraints.proofs.Blocks.{listed_within}
use Rattle.rules.specs.Joins.{is_lower, joins, join_ok}
use Rattle.rules.specs.Lines.{Window, has_literals, has_empty}
use Rattle.rules.specs.Satisfaction.{Valuation, Satisfies}
use Rattle.rules.proofs.Joins.{joined}

-- a line's five kinds
by_kind : {A : Type 0} (kind : ℕ) → 1 ≤ kind → kind ≤ 5
    → (kind ≡ 1 → A) → (kind ≡ 2 → A) → (kind ≡ 3 → A) → (kind ≡ 4 → A) → (kind ≡ 5 → A) → A
by_kind {A} kind least most one two three four five = go (eqb kind 1) (eqb kind 2) (eqb kind 3) (eqb kind 4) refl refl refl refl
  where
    go : (a b c d : Bool) → eqb kind 1 ≡ a → eqb kind 2 ≡ b → eqb kind 3 ≡ c → eqb kind 4 ≡ d → A
    go true b c d e f g h = one (eqb-true kind 1 e)
    go false true c d e f g h = two (eqb-true kind 2 f)
    go false false true d e f g h = three (eqb-true kind 3 g)
    go false false false true e f g h = four (eqb-true kind 4 h)
    go false false false false e f g h =
        five (omega (arith, eqb-false kind 1 e, eqb-false kind 2 f, eqb-false kind 3 g, eqb-false kind 4 h))

-- what line i's rule 19 says: its two lines are lower ones of the part, and join to it
pub record JoinFacts (lines : ℕ → Line) (from i : ℕ) : Type 0 where
  pub p_part : from ≤ (lines i).head.p
  pub p_lower : (lines i).head.p < i
  pub q_part : from ≤ (lines i).head.q
  pub q_lower : (lines i).head.q < i
  pub join : joins (lines (lines i).head.p) (lines (lines i).head.q) (lines i).head.r (lines i) ≡ true

join_facts : (lines : ℕ → Line) (from i : ℕ) → join_ok lines from i ≡ true → JoinFacts lines from i
unfolding join_ok
join_facts lines from i e =
    let p = (lines i).head.p in
    let q = (lines i).head.q in
    let join = joins (lines p) (lines q) (lines i).head.r (lines i) in
    let all = both_true (is_lower from i p && is_lower from i q) join e in
    let lower = both_true (is_lower from i p) (is_lower from i q) all.0 in
    let of_p = both_true (leb _ p) (ltb p i) lower.0 in
    let of_q = both_true (leb _ q) (ltb q i) lower.1 in
    record {
      p_part = omega (arith, leb-true _ p of_p.0);
      p_lower = ltb-true p i of_p.1;
      q_part = omega (arith, leb-true _ q of_q.0);
      q_lower = ltb-true q i of_q.1;
      join = all.1;
    }

module _ (constraints : ℕ → Constraint) (lines : ℕ → Line) (part : Window) (w : Valuation) where
  -- a satisfied line has a literal
  some_literal : (line : Line) → Satisfies constraints w line → not (eqb line.head.count 0) ≡ true
  some_literal line s =
      let listed = s.listed in
      rw (ne_eqb line.head.count 0 (λ (e : line.head.count ≡ 0). omega (arith, listed, listed_within line)))

  -- something of each line of one kind in the part
  abbrev pub OfKind : (kind : ℕ) → (ℕ → Type 0) → Type 0
  OfKind kind Says = (i : ℕ) → part.from ≤ i → i < part.until → (lines i).head.kind ≡ kind → Says i

  -- the window satisfies the part's lines, but for the joins, which keep rule 19
  pub record Premises : Type 0 where
    pub least : (i : ℕ) → part.from ≤ i → i < part.until → 1 ≤ (lines i).head.kind
    pub most : (i : ℕ) → part.from ≤ i → i < part.until → (lines i).head.kind ≤ 5
    pub equations : OfKind 1 (λ i. Satisfies constraints w (lines i))
    pub properties : OfKind 2 (λ i. Satisfies constraints w (lines i))
    pub joins : OfKind 3 (λ i. join_ok lines part.from i ≡ true)
    pub arithmetic : OfKind 4 (λ i. Satisfies constraints w (lines i))
    pub cuts : OfKind 5 (λ i. Satisfies constraints w (lines i))

  module _ (given : Premises) where
    -- every line of the part, by its number: a join is of lower lines
    satisfied_to : (n i : ℕ) → i < n → part.from ≤ i → i < part.until → Satisfies constraints w (lines i)
    satisfied_to zero i low from until = absurd (not-suc-le-zero low)
    satisfied_to (suc n) i low from until =
        by_kind (lines i).head.kind (given.least i from until) (given.most i from until)
        (given.equations i from until)
        (given.properties i from until)
        (λ e.
        let f = join_facts lines part.from i (given.joins i from until e) in
        joined constraints w (lines (lines i).head.p) (lines (lines i).head.q) (lines i).head.r (lines i) f.join
        (satisfied_to n (lines i).head.p (omega (arith, f.p_lower)) f.p_part (omega (arith, f.p_lower)))
        (satisfied_to n (lines i).head.q (omega (arith, f.q_lower)) f.q_part (omega (arith, f.q_lower))))
        (given.arithmetic i from until)
        (given.cuts i from until)

    all_have_literals : every (has_literals lines part.from) (part.until - part.from) ≡ true
    all_have_literals =
        every_of (has_literals lines part.from) (part.until - part.from)
        (λ k l.
        let i = part.from + k in
        some_literal (lines i) (satisfied_to (suc i) i (le_refl (suc i)) (omega arith) (omega arith)))

    pub refuted : has_empty lines part ≡ true → ⊥
    refuted e = false≢true (sym (not-true (every (has_literals lines part.from) (part.until - part.from)) e) ∙ all_have_literals)
