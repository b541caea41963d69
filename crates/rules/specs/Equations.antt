-- Rule 17, "kind 1 not as above", in its words: "Equation: clause r, counted from 0, of stream p at offset q (base: below k; step: up
-- to k). Literals equal the list below in its order". In version 2 "the base covers instants 0 to k". Lines.antt has the test.
use Rattle.std.specs.Prelude.{ℕ, ◌-◌, ◌<◌, ◌≡◌, None, Option, Some}
use Rattle.node.specs.declared.equation.StreamType.{StreamType}
use Rattle.node.specs.declared.equation.Equation.{Equation}
use Rattle.constraints.specs.Layout.{Constraint, Line}
use Rattle.constraints.specs.Linear.{variable}
use Rattle.rules.specs.Versions.{Version}
use Rattle.rules.specs.declared.pattern.Clause.{Clause}
use Rattle.rules.specs.declared.pattern.Position.{Position}
use Rattle.rules.specs.Clauses.{clauses, numbered}
use Rattle.rules.specs.Lines.{position_of}
use Rattle.rules.specs.Matching.{Matches}

-- a line's literals equal a clause's, in its order; a clause has one to three
pub record LiteralsEqual (constraints : ℕ → Constraint) (m : ℕ) (line : Line) (c : Clause) : Type 0 where
  pub count : line.head.count ≡ c.count
  pub first : Matches constraints m c.first (line.literal 0)
  pub second : 1 < c.count → Matches constraints m c.second (line.literal 1)
  pub third : 2 < c.count → Matches constraints m c.third (line.literal 2)

-- those of a number's clause, where there is one
abbrev pub EqualNamed : (ℕ → Constraint) → (m : ℕ) → Line → Option Clause → Type 0
EqualNamed constraints m line None = ⊥
EqualNamed constraints m line (Some c) = LiteralsEqual constraints m line c

pub record EquationLine (version : Version) (n : ℕ) (types : ℕ → StreamType) (equations : ℕ → Equation) (constraints : ℕ → Constraint) (m offsets : ℕ) (opening : Position) (line : Line) : Type 0 where
  pub stream : line.head.p < n
  pub offset : line.head.q < offsets
  pub literals :
      let p = line.head.p in
      let q = line.head.q in
      EqualNamed constraints m line
      (numbered (clauses version (types p) (equations p) (position_of opening q) (variable q) (variable (q - 1)) (variable q p)) line.head.r)
