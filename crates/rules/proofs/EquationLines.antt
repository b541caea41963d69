-- Rule 17: an equation line is satisfied by every window in which the clauses are true, as they are where the node's equations hold.
-- Assumes nothing.
use mathlib.Core.Path.{◌≡◌}
use mathlib.Core.Bool.{Bool, true, false, cond}
use mathlib.Core.List.{List}
use Prim.Native.Nat.{ℕ, ◌-◌, ◌≤◌, ◌<◌}
use native.Mathlib.Omega.{arith}
use lib.Dec.{ltb}
use Rattle.node.specs.Layout.{property_of}
use Rattle.node.specs.Reads.{All, ReadOk, reads}
use Rattle.node.proofs.FileRules.{sizes}
use Rattle.node.proofs.WellFormedness.{well_formed}
use Rattle.streams.specs.Nodes.{Node, node_of, WellFormedNode}
use Rattle.streams.proofs.Reading.{all_map}
use Rattle.constraints.specs.Layout.{Constraint, Line, used_in, trailer_of, constraint_of, line_of}
use Rattle.constraints.specs.Linear.{variable}
use Rattle.rules.specs.declared.pattern.Clause.{Clause}
use Rattle.rules.specs.declared.pattern.Position.{Position}
use Rattle.rules.specs.declared.pattern.Position.TheVariants.{Opening, Entry, Inner}
use Rattle.rules.specs.Clauses.{clauses}
use Rattle.rules.specs.Equations.{EquationLine}
use Rattle.rules.specs.Limited.{Named}
use Rattle.rules.specs.Lines.{base_window, step_window, position_of}
use Rattle.rules.specs.Outcome.{CertificateRules}
use Rattle.rules.specs.Verdict.{part_of, window_of, EquationKept}
use Rattle.rules.specs.Satisfaction.{Valuation, Satisfies}
use Rattle.rules.specs.Theorems.{Covers}
use Rattle.rules.specs.Versions.{Version}
use Rattle.rules.specs.Windows.{PositionSays, RowHolds, Solves}
use Rattle.rules.proofs.Contradiction.{below_written}
use Rattle.rules.proofs.CertificateFacts.{certificate_sizes, constraint_limited}
use Rattle.rules.proofs.ClauseForms.{AllTrue}
use Rattle.rules.proofs.ClauseLines.{numbered_satisfied}
use Rattle.rules.proofs.ClausesHold.{PastAt, clauses_true}
use Rattle.rules.proofs.ClausesNamed.{ClauseBelow, clauses_below}

-- the clauses of stream p at offset q
abbrev pub clauses_at : Version → Node → (opening : Position) → (p q : ℕ) → List Clause
clauses_at version node opening p q =
    clauses version (node.types p) (node.equations p) (position_of opening q) (variable q) (variable (q - 1)) (variable q p)

-- in a window all clauses at the offsets below `offsets` are true
abbrev pub ClausesTrue : Version → Node → (opening : Position) → (offsets : ℕ) → Valuation → Type 0
ClausesTrue version node opening offsets w =
    (p q : ℕ) → p < node.streams → q < offsets → AllTrue w (clauses_at version node opening p q)

module _ (version : Version) (node : Node) (formed : WellFormedNode node) (few : node.streams ≤ 64) (opening : Position) where
  -- ---- stream p at offset q

  module _ (p q : ℕ) (l : p < node.streams) where
    -- what the place of the offset says
    past_at : (w : Valuation) (row : RowHolds version node opening w q p) → PastAt version (position_of opening q) row.first row.past w (variable (q - 1)) (node.equations p)
    past_at w row = go (position_of opening q) row.place
      where
        go : (at : Position) → PositionSays version at node.streams row.first row.past (λ x. w (variable (q - 1) x)) → PastAt version at row.first row.past w (variable (q - 1)) (node.equations p)
        go Opening e = e
        go Entry e = e
        go Inner e = (
          e.0,
          all_map {P = ReadOk node.streams node.types p} {Q = λ r. row.past r.stream ≡ w (variable (q - 1) r.stream)}
              (λ r ok. e.1 r.stream ok.below) (reads (node.equations p)) (formed.operands p l),
        )

    -- its clauses are true, and of small variables
    row_true : (w : Valuation) → RowHolds version node opening w q p → AllTrue w (clauses_at version node opening p q)
    row_true w row =
        clauses_true version w (variable q) (variable (q - 1)) (variable q p) (node.types p) (position_of opening q) row.input row.first
        row.past (node.equations p) (formed.constants p l) (past_at w row) row.value

    row_below : q < 9 → All (ClauseBelow 576) (clauses_at version node opening p q)
    row_below low =
        clauses_below 576 (variable q p) (omega arith) version (variable q) (variable (q - 1)) (node.types p) (node.equations p) (position_of opening q)
        (all_map {P = ReadOk node.streams node.types p}
        (λ r ok. record { at = omega (arith, ok.below); before = omega (arith, ok.below); needed = λ _. omega (arith, ok.below) })
        (reads (node.equations p)) (formed.operands p l))

  -- ---- a window, and a line

  pub solved_true : (offsets : ℕ) (w : Valuation) → Solves version node opening offsets w → ClausesTrue version node opening offsets w
  solved_true offsets w solves p q l o = row_true p q l w (solves.rows q p o l)

  pub equation_in_satisfied :
      (constraints : ℕ → Constraint) (m : ℕ) → ((i : ℕ) → i < m → Named (constraints i) (used_in (constraints i)))
      → (offsets : ℕ) → offsets ≤ 9
      → (line : Line) → EquationLine version node.streams node.types node.equations constraints m offsets opening line
      → (w : Valuation) → ClausesTrue version node opening offsets w
      → Satisfies constraints w line
  equation_in_satisfied constraints m named offsets nine line e w true_there =
      let p = line.head.p in
      let q = line.head.q in
      let o = e.offset in
      numbered_satisfied constraints w m (λ i k. below_written (constraints i) (used_in (constraints i)) (named i k)) line (clauses_at version node opening p q)
      line.head.r (row_below p q e.stream (omega arith)) (true_there p q e.stream o) e.literals

-- ---- a certificate

-- the offsets of either part
offsets_few : (version : Version) → Covers version → (cert : List ℕ) (property i : ℕ) → (trailer_of cert).depth ≤ 8 → (part_of version cert property i).offsets ≤ 9
offsets_few version covers cert property i deep = go (ltb i (trailer_of cert).base)
  where
    go : (t : Bool) → (cond t (base_window version (trailer_of cert).depth property (trailer_of cert).base) (step_window (trailer_of cert).depth property (trailer_of cert).base (trailer_of cert).step)).offsets ≤ 9
    go true = omega (arith, covers.within (trailer_of cert).depth)
    go false = omega arith

pub equation_satisfied : (version : Version) → Covers version → (node cert : List ℕ) → CertificateRules version node cert → (i : ℕ) → EquationKept version node cert i
    → (w : Valuation) → ClausesTrue version (node_of node) (window_of version node cert i).opening (window_of version node cert i).offsets w
    → Satisfies (constraint_of cert) w (line_of cert i)
equation_satisfied version covers node cert rules i e w true_there =
    equation_in_satisfied version (node_of node) (well_formed node rules.node_rules) (sizes node rules.node_rules.file).few
    (window_of version node cert i).opening (constraint_of cert) (trailer_of cert).constraints
    (λ j l. (constraint_limited version node cert rules j l).variables) (window_of version node cert i).offsets
    (offsets_few version covers cert (property_of node) i (certificate_sizes version cert rules.file).deep) (line_of cert i) e w true_there
