-- The conditions 16 to 18 and 21 of "Where each refusal is met", and which of 17 to 20 and 22 a line of a kind breaks.
use Rattle.std.specs.Prelude.{ℕ, ◌+◌, ◌-◌, Bool, false, cond, not, ◌&&◌, ◌||◌, leb, ltb, eqb, None, Option, Some}
use Rattle.answers.specs.Checks.{every}
use Rattle.node.specs.declared.equation.StreamType.{StreamType}
use Rattle.node.specs.declared.equation.Equation.{Equation}
use Rattle.constraints.specs.declared.layout.LineHead.{LineHead}
use Rattle.constraints.specs.Layout.{Constraint, Line, listed_in}
use Rattle.constraints.specs.Linear.{variable}
use Rattle.constraints.specs.Rules.{Types}
use Rattle.rules.specs.Versions.{Version}
use Rattle.rules.specs.declared.pattern.Clause.{Clause}
use Rattle.rules.specs.declared.pattern.Position.{Position}
use Rattle.rules.specs.declared.pattern.Position.TheVariants.{Opening, Entry, Inner}
use Rattle.rules.specs.Arithmetic.{is_multiplier}
use Rattle.rules.specs.Clauses.{clauses, numbered}
use Rattle.rules.specs.Factors.{matches_of}
use Rattle.literals.specs.Literals.{positive, negative, atom_of}
use Rattle.rules.specs.Literals.{names_atom}

-- the multiplier of a listed literal: kinds 4 and 5 use it, and 22 takes "multipliers included"; the other kinds leave it at zero
abbrev pub multiplier_ok : (kind multiplier : ℕ) → Bool
multiplier_ok kind m = cond (eqb kind 4) (is_multiplier m) (eqb kind 5 || eqb m 0)

-- literal and multiplier j of a line: listed ones name an atom, the rest are zero
unfoldable pub slot_ok : Types → (k m kind count : ℕ) → (literal multiplier : ℕ → ℕ) → (j : ℕ) → Bool
slot_ok types k m kind count literal multiplier j =
    cond (leb count j) (eqb (literal j) 0 && eqb (multiplier j) 0)
    (names_atom types k m (atom_of (literal j)) && multiplier_ok kind (multiplier j))

-- "What its kind and count don't use is zero": kind 1 and 3 use p, q and r, kind 2 uses q, kind 4 none, kind 5 uses r
unfoldable pub numbers_ok : LineHead → Bool
numbers_ok h =
    (eqb h.kind 1 || eqb h.kind 3 || eqb h.p 0)
    && (leb h.kind 3 || eqb h.q 0)
    && (eqb h.kind 1 || eqb h.kind 3 || eqb h.kind 5 || eqb h.r 0)

-- 16: kind, count, listed literal naming no atom, kind 4 multiplier, unused field not 0
unfoldable pub shape_ok : Types → (k m : ℕ) → Line → Bool
shape_ok types k m line =
    leb 1 line.head.kind
    && leb line.head.kind 5
    && leb line.head.count 12
    && numbers_ok line.head
    && every (slot_ok types k m line.head.kind line.head.count line.literal line.multiplier) 12

-- what a part assumes of its window
pub record Window : Type 0 where
  -- the part's first line, and one past its last
  pub from : ℕ
  pub until : ℕ
  -- its equations stand at the offsets below this one
  pub offsets : ℕ
  -- where its first offset stands
  pub opening : Position
  -- what its property lines are
  pub property : Line → Bool

-- literal j is not-prop at offset j
abbrev pub not_property_at : (prop : ℕ) → (ℕ → ℕ) → (j : ℕ) → Bool
not_property_at prop literal j = eqb (literal j) (negative (variable j prop))

-- "Base: q = 0 and not-prop at offsets 0 to k − 1, rising." "the base covers instants 0 to k, its property line too": as many offsets as
-- the base covers
unfoldable pub base_property_ok : (covered prop : ℕ) → Line → Bool
base_property_ok covered prop line =
    eqb line.head.q 0
    && eqb line.head.count covered
    && every (not_property_at prop line.literal) (listed_in line)

-- "Step: prop at q where q is below k; not-prop where q = k."
unfoldable pub step_property_ok : (k prop : ℕ) → Line → Bool
step_property_ok k prop line =
    let q = line.head.q in
    leb q k
    && eqb line.head.count 1
    && eqb (line.literal 0) (cond (eqb q k) (negative (variable q prop)) (positive (variable q prop)))

-- the base: the instants from 0 on that it covers; its first offset is instant 0
abbrev pub base_window : Version → (k prop base : ℕ) → Window
base_window version k prop base =
    record {
      from = 0;
      until = base;
      offsets = version.covered k;
      opening = Opening;
      property = base_property_ok (version.covered k) prop;
    }

-- the step: k + 1 instants in a row; in version 1 any, in version 2 any after instant 0
abbrev pub step_window : (k prop base step : ℕ) → Window
step_window k prop base step =
    record { from = base; until = base + step; offsets = k + 1; opening = Entry; property = step_property_ok k prop }

-- where an offset of a part stands
abbrev pub position_of : (opening : Position) → (offset : ℕ) → Position
position_of opening offset = cond (eqb offset 0) opening Inner

-- a line's literals are those of a clause, in its order
unfoldable pub clause_is : (ℕ → Constraint) → (m : ℕ) → Line → Clause → Bool
clause_is constraints m line c =
    eqb line.head.count c.count
    && matches_of constraints m c.first (line.literal 0)
    && (leb c.count 1 || matches_of constraints m c.second (line.literal 1))
    && (leb c.count 2 || matches_of constraints m c.third (line.literal 2))

abbrev pub literals_are : (ℕ → Constraint) → (m : ℕ) → Line → Option Clause → Bool
literals_are constraints m line None = false
literals_are constraints m line (Some c) = clause_is constraints m line c

-- a node as lines see it
pub record Streams : Type 0 where
  pub count : ℕ
  pub property : ℕ
  pub types : ℕ → StreamType
  pub equations : ℕ → Equation

-- 17, the test: "clause r, counted from 0, of stream p at offset q", which the part has. Equations.antt has the words.
unfoldable pub equation_in : Version → (n : ℕ) (types : ℕ → StreamType) (equations : ℕ → Equation) → (ℕ → Constraint) → (m offsets : ℕ) → (opening : Position) → Line → Bool
equation_in version n types equations constraints m offsets opening line =
    let p = line.head.p in
    let q = line.head.q in
    ltb p n
    && ltb q offsets
    && literals_are constraints m line
    (numbered (clauses version (types p) (equations p) (position_of opening q) (variable q) (variable (q - 1)) (variable q p)) line.head.r)

abbrev pub equation_ok : Version → Streams → (ℕ → Constraint) → (m : ℕ) → Window → Line → Bool
equation_ok version node constraints m w =
    equation_in version node.count node.types node.equations constraints m w.offsets w.opening

-- a rule's number where its test fails, else what the rules after it give
abbrev pub unless : (ok : Bool) → (number rest : ℕ) → ℕ
unless ok number rest = cond ok rest number

-- a line of one kind keeps that kind's rule; of the other lines nothing is asked
abbrev pub of_kind : (kind its : ℕ) → (ok : Bool) → Bool
of_kind kind its ok = not (eqb kind its) || ok

-- 17, 18, 19, 20: "kind 1, 2, 3, 4 not as above"; "22, a kind 5 line not as described": the number of the rule that a line of a kind
-- breaks, 0 where it breaks none
unfoldable pub kind_fault : (kind : ℕ) → (equation property join arithmetic cut : Bool) → ℕ
kind_fault kind equation property join arithmetic cut =
    unless (of_kind kind 1 equation) 17
    (unless (of_kind kind 2 property) 18
    (unless (of_kind kind 3 join) 19 (unless (of_kind kind 4 arithmetic) 20 (unless (of_kind kind 5 cut) 22 0))))

-- line i of those from `from` on has literals
abbrev pub has_literals : (ℕ → Line) → (from i : ℕ) → Bool
has_literals lines from i = not (eqb (lines (from + i)).head.count 0)

-- 21: the part has some line without literals
abbrev pub has_empty : (ℕ → Line) → Window → Bool
has_empty lines w = not (every (has_literals lines w.from) (w.until - w.from))
