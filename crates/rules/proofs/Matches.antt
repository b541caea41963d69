-- Rule 17's words, and its test: they say the same of every line, where the node keeps its rules.
-- Assumes nothing.
use mathlib.Core.Path.{◌≡◌, refl, sym, ap}
use mathlib.Core.Logic.{◌↔◌}
use mathlib.Core.List.{List, [], ◌∷◌}
use mathlib.Core.Bool.{Bool, true, false, not, ◌&&◌, ◌||◌, true≢false}
use Prim.Native.Nat.{ℕ, zero, suc, ◌-◌, ◌<◌}
use native.Mathlib.Omega.{arith}
use borrow.Author.Tests.{eqb-true, eq-eqb, ltb-true, lt-ltb, leb-false, lt-leb, not-true}
use lib.Dec.{leb, ltb, eqb}
use Rattle.answers.proofs.Tests.{both_true}
use Rattle.node.specs.Layout.{streams_of}
use Rattle.node.specs.Equations.{type_at, equation_at}
use Rattle.node.specs.Outcome.{NodeRules}
use Rattle.node.specs.Order.{place_in}
use Rattle.node.specs.Reads.{All, reads, order_of}
use Rattle.node.proofs.WellFormedness.{well_formed}
use Rattle.streams.proofs.Reading.{all_map}
use Rattle.constraints.specs.Layout.{Constraint, Line, trailer_of, constraint_of, line_of}
use Rattle.constraints.specs.Linear.{variable, bounded_of as of_constraint}
use Rattle.literals.specs.Literals.{positive, negative, atom_of, is_negated, is_constraint, constraint_number}
use Rattle.rules.specs.declared.pattern.Clause.{Clause}
use Rattle.rules.specs.declared.pattern.Linear.{Linear}
use Rattle.rules.specs.declared.pattern.Pattern.{Pattern}
use Rattle.rules.specs.declared.pattern.Pattern.TheVariants.{Yes, No, Most}
use Rattle.rules.specs.Clauses.{clauses, numbered}
use Rattle.rules.specs.Equations.{LiteralsEqual, EqualNamed}
use Rattle.rules.specs.Factors.{is_multiple, says_most, matches_of}
use Rattle.rules.specs.Lines.{position_of, clause_is, literals_are, equation_in}
use Rattle.rules.specs.Matching.{SaysMost, Matches}
use Rattle.rules.specs.Verdict.{window_of, EquationKept, equation_passes}
use Rattle.rules.specs.Versions.{Version}
use Rattle.rules.proofs.ClauseLiterals.{Each, each_literal}
use Rattle.rules.proofs.Factors.{multiple_exactly, multiple_means}
use Rattle.rules.proofs.Leading.{Leading, LeadingLiteral, made_leading}

-- ---- a literal

module _ (constraints : ℕ → Constraint) (m : ℕ) where
  most_means : (d : Linear) (l : ℕ) → says_most constraints m d l ≡ true → SaysMost constraints m d l
  unfolding says_most
  most_means d l e =
      let i = constraint_number (atom_of l) in
      let third = both_true (not (is_negated l) && is_constraint (atom_of l) && ltb i m) (is_multiple d (of_constraint (constraints i))) e in
      let second = both_true (not (is_negated l) && is_constraint (atom_of l)) (ltb i m) third.0 in
      let first = both_true (not (is_negated l)) (is_constraint (atom_of l)) second.0 in
      record {
        unnegated = not-true (is_negated l) first.0;
        on_constraint = first.1;
        listed = ltb-true i m second.1;
        multiple = multiple_means d (of_constraint (constraints i)) third.1;
      }

  most_test : (d : Linear) (l : ℕ) → Leading d → SaysMost constraints m d l → says_most constraints m d l ≡ true
  unfolding says_most
  most_test d l leads says =
      rw (
        says.unnegated,
        says.on_constraint,
        lt-ltb _ m says.listed,
        (multiple_exactly d (of_constraint (constraints (constraint_number (atom_of l)))) leads).1 says.multiple,
      )

  matches_means : (p : Pattern) (l : ℕ) → matches_of constraints m p l ≡ true → Matches constraints m p l
  matches_means (Yes x) l e = eqb-true l (positive x) e
  matches_means (No x) l e = eqb-true l (negative x) e
  matches_means (Most d) l e = most_means d l e

  matches_test : (p : Pattern) (l : ℕ) → LeadingLiteral p → Matches constraints m p l → matches_of constraints m p l ≡ true
  matches_test (Yes x) l leads e = eq-eqb l (positive x) e
  matches_test (No x) l leads e = eq-eqb l (negative x) e
  matches_test (Most d) l leads e = most_test d l leads e

-- ---- a clause

-- a second or third literal, which a short clause lacks
lacking : (k j : ℕ) (b : Bool) → (leb k j || b) ≡ true → j < k → b ≡ true
lacking k j b e l = rw (lt-leb k j l) at e

either_way : (k j : ℕ) (b : Bool) → (j < k → b ≡ true) → (leb k j || b) ≡ true
either_way k j b h = go (leb k j) refl
  where
    go : (t : Bool) → leb k j ≡ t → (t || b) ≡ true
    go true e = refl
    go false e = h (leb-false k j e)

module _ (constraints : ℕ → Constraint) (m : ℕ) (line : Line) where
  clause_means : (c : Clause) → clause_is constraints m line c ≡ true → LiteralsEqual constraints m line c
  unfolding clause_is
  clause_means c e =
      let count = eqb line.head.count c.count in
      let first = matches_of constraints m c.first (line.literal 0) in
      let second = matches_of constraints m c.second (line.literal 1) in
      let third = matches_of constraints m c.third (line.literal 2) in
      let outer = both_true (count && first && (leb c.count 1 || second)) (leb c.count 2 || third) e in
      let middle = both_true (count && first) (leb c.count 1 || second) outer.0 in
      let inner = both_true count first middle.0 in
      record {
        count = eqb-true line.head.count c.count inner.0;
        first = matches_means constraints m c.first _ inner.1;
        second = λ l. matches_means constraints m c.second _ (lacking c.count 1 second middle.1 l);
        third = λ l. matches_means constraints m c.third _ (lacking c.count 2 third outer.1 l);
      }

  clause_test : (c : Clause) → Each LeadingLiteral c → LiteralsEqual constraints m line c → clause_is constraints m line c ≡ true
  unfolding clause_is
  clause_test c leads e =
      rw (
        eq-eqb line.head.count c.count e.count,
        matches_test constraints m c.first _ leads.first e.first,
        either_way c.count 1 _ (λ l. matches_test constraints m c.second _ leads.second (e.second l)),
        either_way c.count 2 _ (λ l. matches_test constraints m c.third _ leads.third (e.third l)),
      )

  named_means : (cs : List Clause) (r : ℕ) → literals_are constraints m line (numbered cs r) ≡ true → EqualNamed constraints m line (numbered cs r)
  named_means [] r e = absurd (true≢false (sym e))
  named_means (c ∷ cs) zero e = clause_means c e
  named_means (c ∷ cs) (suc r) e = named_means cs r e

  named_test : (cs : List Clause) (r : ℕ) → All (Each LeadingLiteral) cs → EqualNamed constraints m line (numbered cs r) → literals_are constraints m line (numbered cs r) ≡ true
  named_test [] r leads e = absurd e
  named_test (c ∷ cs) zero leads e = clause_test c leads.0 e
  named_test (c ∷ cs) (suc r) leads e = named_test cs r leads.1 e

-- ---- a line

module _ (version : Version) (node cert : List ℕ) (i : ℕ) where
  abbrev line : Line
  line = line_of cert i

  abbrev its_clauses : List Clause
  its_clauses =
      let p = line.head.p in
      let q = line.head.q in
      clauses version (type_at node p) (equation_at node p) (position_of (window_of version node cert i).opening q) (variable q) (variable (q - 1)) (variable q p)

  -- operands needed now are other streams
  leading : NodeRules node → line.head.p < streams_of node → All (Each LeadingLiteral) its_clauses
  leading rules l =
      let p = line.head.p in
      let q = line.head.q in
      each_literal (made_leading (variable q p)) version (variable q) (variable (q - 1)) (type_at node p) (equation_at node p) _ tt
      (all_map {P = λ r. r.now ≡ true → place_in (order_of node) r.stream < place_in (order_of node) p}
      (λ r after. record { at = tt; before = tt; needed = λ now e. let same : r.stream ≡ p = omega (arith, e) in omega (arith, after now, ap (place_in (order_of node)) same) })
      (reads (equation_at node p)) ((well_formed node rules).ordered.after p l))

  pub equation_means : equation_passes version node cert i ≡ true → EquationKept version node cert i
  unfolding equation_in
  equation_means e =
      let p = line.head.p in
      let q = line.head.q in
      let n = streams_of node in
      let offsets = (window_of version node cert i).offsets in
      let equal = literals_are (constraint_of cert) (trailer_of cert).constraints line (numbered its_clauses line.head.r) in
      let outer = both_true (ltb p n && ltb q offsets) equal e in
      let inner = both_true (ltb p n) (ltb q offsets) outer.0 in
      record {
        stream = ltb-true p n inner.0;
        offset = ltb-true q offsets inner.1;
        literals = named_means (constraint_of cert) (trailer_of cert).constraints line its_clauses line.head.r outer.1;
      }

  pub equation_test : NodeRules node → EquationKept version node cert i → equation_passes version node cert i ≡ true
  unfolding equation_in
  equation_test rules e =
      rw (
        lt-ltb _ _ e.stream,
        lt-ltb _ _ e.offset,
        named_test (constraint_of cert) (trailer_of cert).constraints line its_clauses line.head.r (leading rules e.stream) e.literals,
      )

  -- the test, and the words
  pub equation_exactly : NodeRules node → (equation_passes version node cert i ≡ true) ↔ EquationKept version node cert i
  equation_exactly rules = (equation_means, equation_test rules)
