-- A node that needs version 2 (examples/set-up): at depth 1 version 2 accepts a certificate, and version 1's rules accept none. And why the
-- base of version 2 covers instant k too: without it a false property would be accepted (examples/forged-set-up).
use Rattle.std.specs.Prelude.{ℕ, suc, ◌+◌, ◌*◌, ◌≡◌, List, [], ◌∷◌, ◌++◌, map, true, pos, neg_ℤ, length, replicate}
use Rattle.answers.specs.Answer.{accepted}
use Rattle.answers.specs.declared.CertificateValues.{CertificateValues}
use Rattle.node.specs.Written.{node_file}
use Rattle.literals.specs.Literals.{negative}
use Rattle.rules.specs.Theorems.{PropertyHolds}
use Rattle.rules.specs.Verdict.{verdict_of, archived_verdict}
use Rattle.rules.specs.Versions.{Version, version2}
use Rattle.soundness.specs.Files.{rec, term, at_most, line, certificate_file}
use Rattle.soundness.specs.Starred.{is, is_not, negations}

-- 0 the constant 5; 1 the constant 0; 2 = 0 -> 1; 3 = 1 -> pre 2; 4 = 3 at most `bound`, the property
unfoldable pub carried : (bound : ℕ) → List ℕ
carried bound =
    node_file
    (rec 1 1 0 0 0 (pos 5)
    ∷ rec 1 1 0 0 0 (pos 0)
    ∷ rec 12 1 0 1 0 (pos 0)
    ∷ rec 13 1 1 2 0 (pos 0)
    ∷ rec 9 0 3 bound 0 (pos 0)
    ∷ [])
    4

-- at most 5, which always holds, and at most 0, which fails at instant 1
abbrev pub set_up : List ℕ
set_up = carried 0

abbrev pub forged_set_up : List ℕ
forged_set_up = carried 1

-- stream y at offset j is under stream x at offset i, and x is at most y; y's variable comes first
abbrev under : (y j x i : ℕ) → List ℕ
under y j x i = at_most (term y j (pos 1) ∷ term x i (neg_ℤ (pos 1)) ∷ []) (neg_ℤ (pos 1))

abbrev most : (y j x i : ℕ) → List ℕ
most y j x i = at_most (term y j (neg_ℤ (pos 1)) ∷ term x i (pos 1) ∷ []) (pos 0)

-- the constraints of both certificates, by the number of the bound's stream: that it is under 3 at offsets 0 and 1; 3 ≤ 1 at 0; 3 at 1 is at most 2
-- at 0; 2 ≤ 1 at 0; 1 at 0 is at most 0
abbrev shared : (bound : ℕ) → List (List ℕ)
shared bound =
    under bound 0 3 0
    ∷ under bound 1 3 1
    ∷ most 1 0 3 0
    ∷ most 2 0 3 1
    ∷ most 1 0 2 0
    ∷ at_most (term 1 0 (pos 1) ∷ []) (pos 0)
    ∷ []

-- a constraint as a literal, and its negation
abbrev says : (constraint : ℕ) → ℕ
says c = 2 * (576 + c)

abbrev denies : (constraint : ℕ) → ℕ
denies c = negative (576 + c)

-- an equation's clause of one constraint
record Step : Type 0 where
  stream : ℕ
  offset : ℕ
  clause : ℕ
  constraint : ℕ

abbrev at : (stream offset clause constraint : ℕ) → Step
at stream offset clause constraint = record { stream = stream; offset = offset; clause = clause; constraint = constraint }

abbrev denied : List Step → List ℕ
denied = map (λ s. denies s.constraint)

-- the equations of steps strike the denials of their constraints, one by one: `last` is the line before, lines are numbered from
-- `first` on, and `rest` stands in all
abbrev strike : (last first : ℕ) → (rest : List ℕ) → List Step → List (List ℕ)
strike last first rest [] = []
strike last first rest (s ∷ left) =
    line 1 s.stream s.offset s.clause (says s.constraint ∷ []) []
    ∷ line 3 first last (says s.constraint) (denied left ++ rest) []
    ∷ strike (suc first) (first + 2) rest left

-- from the property that fails at offset j, or `rest`, to `rest` alone: clause 1 of the property has the constraint c, and this and those of the
-- steps add up to a contradiction
abbrev refute : (j c from first : ℕ) → (rest : List ℕ) → List Step → List (List ℕ)
refute j c from first rest steps =
    line 1 4 j 1 (is j 4 ∷ says c ∷ []) []
    ∷ line 3 from first (is_not j 4) (says c ∷ rest) []
    ∷ line 4 0 0 0 (denies c ∷ denied steps) (replicate (suc (length steps)) 1)
    ∷ line 3 (first + 1) (first + 2) (says c) (denied steps ++ rest) []
    ∷ strike (first + 3) (first + 4) rest steps

-- beside them in set-up, 6 and on: 2 ≤ 0 at 0; 0 at 0 is at most and at least 5; 0 at 1 is at least 5
abbrev set_up_constraints : List (List ℕ)
set_up_constraints =
    shared 0
    ++ most 0 0 2 0
    ∷ at_most (term 0 0 (pos 1) ∷ []) (pos 5)
    ∷ at_most (term 0 0 (neg_ℤ (pos 1)) ∷ []) (neg_ℤ (pos 5))
    ∷ at_most (term 0 1 (neg_ℤ (pos 1)) ∷ []) (neg_ℤ (pos 5))
    ∷ []

-- the property of set-up holds at instants 0 and 1, and after each window that begins after instant 0
unfoldable pub set_up_certificate : List ℕ
set_up_certificate =
    certificate_file version2 1 set_up_constraints
    (line 2 0 0 0 (negations 4 0 2) []
    ∷ refute 0 0 0 1 (negations 4 1 1) (at 3 0 0 2 ∷ at 1 0 0 5 ∷ at 0 0 1 8 ∷ [])
    ++ refute 1 1 10 11 [] (at 3 1 0 3 ∷ at 2 0 0 6 ∷ at 0 0 0 7 ∷ at 0 1 1 9 ∷ []))
    (line 2 0 1 0 (is_not 1 4 ∷ []) [] ∷ refute 1 1 23 24 [] (at 3 1 0 3 ∷ at 2 0 0 4 ∷ at 1 0 0 5 ∷ at 0 1 1 9 ∷ []))

-- set-up has a certificate of depth 1 in version 2, and none in version 1
pub record NeedsVersion2 : Type 0 where
  pub has : verdict_of version2 set_up set_up_certificate ≡ accepted (record { depth = 1; base = 23; step = 13 })
  pub had_none : (cert : List ℕ) (v : CertificateValues) → archived_verdict set_up cert ≡ accepted v → v.depth ≡ 1 → ⊥

-- half of version 2: the step's window begins after instant 0, and the base covers instants 0 to k − 1 alone
abbrev pub halved : Version
halved = record { byte = 2; covered = λ k. k; after = true }

-- the base of instant 0 alone, and the step of version 2; beside the shared constraints, 6: 1 at 1 is at least 0
unfoldable pub forged_certificate : List ℕ
forged_certificate =
    certificate_file halved 1 (shared 1 ++ at_most (term 1 1 (neg_ℤ (pos 1)) ∷ []) (pos 0) ∷ [])
    (line 2 0 0 0 (negations 4 0 1) [] ∷ refute 0 0 0 1 [] (at 3 0 0 2 ∷ []))
    (line 2 0 1 0 (is_not 1 4 ∷ []) [] ∷ refute 1 1 7 8 [] (at 3 1 0 3 ∷ at 2 0 0 4 ∷ at 1 0 0 5 ∷ at 1 1 1 6 ∷ []))

-- a version that accepts a certificate of a property that does not hold
pub record Unsound (version : Version) : Type 0 where
  pub node : List ℕ
  pub cert : List ℕ
  pub values : CertificateValues
  pub accepts : verdict_of version node cert ≡ accepted values
  pub fails : PropertyHolds node → ⊥

abbrev pub HalvedUnsound : Type 0
HalvedUnsound = Unsound halved
