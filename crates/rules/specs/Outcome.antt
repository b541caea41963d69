-- The rules of a certificate one by one: what an accepted one keeps, and what a refusal says. Both are proved of every answer
-- (proofs/Outcomes.antt), so that all published rules hold and no other. The theorem does not look into the verdict.
use Rattle.std.specs.Prelude.{ℕ, ◌<◌, ◌≡◌, List, Bool, true, false, length, Err, Ok}
use Rattle.answers.specs.declared.Place.{Place}
use Rattle.answers.specs.declared.Place.TheVariants.{File, Constraint as AtConstraint, Line as AtLine, Base, Step}
use Rattle.answers.specs.Answer.{Answer}
use Rattle.answers.specs.declared.CertificateValues.{CertificateValues}
use Rattle.answers.specs.Checks.{Lowest}
use Rattle.node.specs.Outcome.{NodeRules, FirstFailure as NodeFailure}
use Rattle.node.specs.Rules.{length_ok}
use Rattle.constraints.specs.Layout.{trailer_of, line_of}
use Rattle.constraints.specs.Rules.{fixed_ok, counts_ok, distance_ok}
use Rattle.rules.specs.Versions.{Version}
use Rattle.rules.specs.Lines.{has_empty}
use Rattle.rules.specs.Verdict.{base_of, step_of, lines_of, values_of, constraint_passes, shape_passes, EquationKept, property_passes, join_passes, arithmetic_passes, cut_passes, line_passes}

-- 11 to 14
pub record FileRules (version : Version) (cert : List ℕ) : Type 0 where
  pub size : length_ok (length cert) ≡ true
  pub fixed : fixed_ok version.byte (trailer_of cert) ≡ true
  pub counts : counts_ok (trailer_of cert) ≡ true
  pub distance : distance_ok (trailer_of cert) (length cert) ≡ true

-- 15, at each constraint
abbrev pub ConstraintsKeep : (node cert : List ℕ) → Type 0
ConstraintsKeep node cert = (i : ℕ) → i < (trailer_of cert).constraints → constraint_passes node cert i ≡ true

-- a rule of lines, at each line
abbrev pub LinesKeep : (cert : List ℕ) → (ℕ → Bool) → Type 0
LinesKeep cert ok = (i : ℕ) → i < lines_of cert → ok i ≡ true

-- a rule of the lines of one kind, at each of them
abbrev pub KindKeeps : (cert : List ℕ) → (kind : ℕ) → (ℕ → Bool) → Type 0
KindKeeps cert kind ok = (i : ℕ) → i < lines_of cert → (line_of cert i).head.kind ≡ kind → ok i ≡ true

pub record CertificateRules (version : Version) (node cert : List ℕ) : Type 0 where
  pub node_rules : NodeRules node  -- 1 to 8 and 23
  pub file : FileRules version cert  -- 11 to 14
  pub constraints : ConstraintsKeep node cert  -- 15
  pub shapes : LinesKeep cert (shape_passes node cert)  -- 16
  pub equations : (i : ℕ) → i < lines_of cert → (line_of cert i).head.kind ≡ 1 → EquationKept version node cert i  -- 17
  pub properties : KindKeeps cert 2 (property_passes version node cert)  -- 18
  pub joins : KindKeeps cert 3 (join_passes cert)  -- 19
  pub arithmetic : KindKeeps cert 4 (arithmetic_passes cert)  -- 20
  pub cuts : KindKeeps cert 5 (cut_passes cert)  -- 22
  pub base_ends : has_empty (line_of cert) (base_of version node cert) ≡ true  -- 21, the base
  pub step_ends : has_empty (line_of cert) (step_of node cert) ≡ true  -- 21, the step

-- 1 to 8, 23 and 11 to 15, which are checked before any line
pub record BeforeLines (version : Version) (node cert : List ℕ) : Type 0 where
  pub node_rules : NodeRules node
  pub file : FileRules version cert
  pub constraints : ConstraintsKeep node cert

-- line i is met: the rules before all lines hold, and the lines before it keep theirs
pub record LineMet (version : Version) (node cert : List ℕ) (i : ℕ) : Type 0 where
  pub before : BeforeLines version node cert
  pub below : i < lines_of cert
  pub earlier : (j : ℕ) → j < i → line_passes version node cert j ≡ true

-- it has passed rule 16, and is of this kind
pub record KindMet (version : Version) (node cert : List ℕ) (i kind : ℕ) : Type 0 where
  pub met : LineMet version node cert i
  pub shape : shape_passes node cert i ≡ true
  pub is : (line_of cert i).head.kind ≡ kind

-- what a refusal says: the rules before it hold, and it is met at its lowest place
pub data FirstFailure (version : Version) (node cert : List ℕ) : (number : ℕ) → Place → Type 0 where
  in_node : {number : ℕ} {place : Place} → NodeFailure node number place → FirstFailure version node cert number place
  at_11 : NodeRules node → length_ok (length cert) ≡ false → FirstFailure version node cert 11 File
  at_12 : NodeRules node → length_ok (length cert) ≡ true → fixed_ok version.byte (trailer_of cert) ≡ false → FirstFailure version node cert 12 File
  at_13 : NodeRules node → length_ok (length cert) ≡ true → fixed_ok version.byte (trailer_of cert) ≡ true → counts_ok (trailer_of cert) ≡ false → FirstFailure version node cert 13 File
  at_14 : NodeRules node → length_ok (length cert) ≡ true → fixed_ok version.byte (trailer_of cert) ≡ true → counts_ok (trailer_of cert) ≡ true → distance_ok (trailer_of cert) (length cert) ≡ false → FirstFailure version node cert 14 File
  at_15 : {i : ℕ} → NodeRules node → FileRules version cert → Lowest (constraint_passes node cert) (trailer_of cert).constraints i → FirstFailure version node cert 15 (AtConstraint i)
  at_16 : {i : ℕ} → LineMet version node cert i → shape_passes node cert i ≡ false → FirstFailure version node cert 16 (AtLine i)
  at_17 : {i : ℕ} → KindMet version node cert i 1 → (¬ EquationKept version node cert i) → FirstFailure version node cert 17 (AtLine i)
  at_18 : {i : ℕ} → KindMet version node cert i 2 → property_passes version node cert i ≡ false → FirstFailure version node cert 18 (AtLine i)
  at_19 : {i : ℕ} → KindMet version node cert i 3 → join_passes cert i ≡ false → FirstFailure version node cert 19 (AtLine i)
  at_20 : {i : ℕ} → KindMet version node cert i 4 → arithmetic_passes cert i ≡ false → FirstFailure version node cert 20 (AtLine i)
  at_22 : {i : ℕ} → KindMet version node cert i 5 → cut_passes cert i ≡ false → FirstFailure version node cert 22 (AtLine i)
  at_21_base : BeforeLines version node cert → LinesKeep cert (line_passes version node cert) → has_empty (line_of cert) (base_of version node cert) ≡ false → FirstFailure version node cert 21 Base
  at_21_step : BeforeLines version node cert → LinesKeep cert (line_passes version node cert) → has_empty (line_of cert) (base_of version node cert) ≡ true → has_empty (line_of cert) (step_of node cert) ≡ false → FirstFailure version node cert 21 Step

-- what each answer to a node file and a certificate says
abbrev pub Says : Version → (node cert : List ℕ) → Answer CertificateValues → Type 0
Says version node cert (Ok v) = CertificateRules version node cert × (v ≡ values_of cert)
Says version node cert (Err r) = FirstFailure version node cert r.number r.place
