-- The answer to a node file and a certificate: the whole table "Where each refusal is met" but for sessions, from the top.
use Rattle.std.specs.Prelude.{ℕ, ◌+◌, List, Bool, cond, ltb, eqb, length, None, Option, Some}
use Rattle.answers.specs.declared.Place.TheVariants.{File, Constraint as AtConstraint, Line as AtLine, Base, Step}
use Rattle.answers.specs.Answer.{Answer, accepted, refused}
use Rattle.answers.specs.declared.CertificateValues.{CertificateValues}
use Rattle.answers.specs.Checks.{check, check_all, lowest, and_then}
use Rattle.node.specs.Equations.{type_at, equation_at}
use Rattle.node.specs.Layout.{streams_of, property_of}
use Rattle.node.specs.Rules.{length_ok}
use Rattle.node.specs.Verdict.{verdict_of as node_verdict}
use Rattle.constraints.specs.Layout.{trailer_of, constraint_of, line_of}
use Rattle.constraints.specs.Rules.{Types, fixed_ok, counts_ok, distance_ok, constraint_ok}
use Rattle.rules.specs.Versions.{Version, version1}
use Rattle.rules.specs.Types.{types_below}
use Rattle.rules.specs.Arithmetic.{arithmetic_ok}
use Rattle.rules.specs.Cuts.{cut_ok}
use Rattle.rules.specs.Equations.{EquationLine}
use Rattle.rules.specs.Joins.{join_ok}
use Rattle.rules.specs.Lines.{Streams, Window, base_window, step_window, shape_ok, equation_ok, unless, kind_fault, has_empty}

-- the streams of a node: 0 a bool, 1 an int, 2 none
abbrev pub types_of_node : List ℕ → Types
types_of_node node = types_below node (streams_of node)

abbrev pub streams_of_node : List ℕ → Streams
streams_of_node node =
    record { count = streams_of node; property = property_of node; types = type_at node; equations = equation_at node }

-- how many lines there are
abbrev pub lines_of : (cert : List ℕ) → ℕ
lines_of cert = (trailer_of cert).base + (trailer_of cert).step

-- the part that line i stands in, for a property stream
abbrev pub part_of : Version → (cert : List ℕ) → (property i : ℕ) → Window
part_of version cert property i =
    let t = trailer_of cert in
    cond (ltb i t.base) (base_window version t.depth property t.base) (step_window t.depth property t.base t.step)

abbrev pub window_of : Version → (node cert : List ℕ) → (i : ℕ) → Window
window_of version node cert i = part_of version cert (property_of node) i

-- the two parts
abbrev pub base_of : Version → (node cert : List ℕ) → Window
base_of version node cert = let t = trailer_of cert in base_window version t.depth (property_of node) t.base

abbrev pub step_of : (node cert : List ℕ) → Window
step_of node cert = let t = trailer_of cert in step_window t.depth (property_of node) t.base t.step

-- the first line of the part that line i stands in
abbrev pub first_line : (cert : List ℕ) → (i : ℕ) → ℕ
first_line cert i = cond (ltb i (trailer_of cert).base) 0 (trailer_of cert).base

-- rule 15, of constraint i
abbrev pub constraint_passes : (node cert : List ℕ) → (i : ℕ) → Bool
constraint_passes node cert i = constraint_ok (types_of_node node) (trailer_of cert).depth (constraint_of cert i)

-- rule 16, of line i
unfoldable pub shape_passes : (node cert : List ℕ) → (i : ℕ) → Bool
shape_passes node cert i =
    shape_ok (types_of_node node) (trailer_of cert).depth (trailer_of cert).constraints (line_of cert i)

-- rule 17, of line i: the words, and the test
abbrev pub EquationKept : Version → (node cert : List ℕ) → (i : ℕ) → Type 0
EquationKept version node cert i =
    let w = window_of version node cert i in
    EquationLine version (streams_of node) (type_at node) (equation_at node) (constraint_of cert) (trailer_of cert).constraints w.offsets w.opening (line_of cert i)

abbrev pub equation_passes : Version → (node cert : List ℕ) → (i : ℕ) → Bool
equation_passes version node cert i =
    equation_ok version (streams_of_node node) (constraint_of cert) (trailer_of cert).constraints (window_of version node cert i) (line_of cert i)

-- rule 18, of line i
abbrev pub property_passes : Version → (node cert : List ℕ) → (i : ℕ) → Bool
property_passes version node cert i = (window_of version node cert i).property (line_of cert i)

-- rule 19, of line i
abbrev pub join_passes : (cert : List ℕ) → (i : ℕ) → Bool
join_passes cert i = join_ok (line_of cert) (first_line cert i) i

-- rule 20, of line i
abbrev pub arithmetic_passes : (cert : List ℕ) → (i : ℕ) → Bool
arithmetic_passes cert i = arithmetic_ok (constraint_of cert) (line_of cert i)

-- rule 22, of line i
abbrev pub cut_passes : (cert : List ℕ) → (i : ℕ) → Bool
cut_passes cert i = cut_ok (constraint_of cert) (line_of cert i)

-- the number of its kind's rule, where line i breaks it, else 0
abbrev pub own_fault : Version → (node cert : List ℕ) → (i : ℕ) → ℕ
own_fault version node cert i =
    kind_fault (line_of cert i).head.kind (equation_passes version node cert i) (property_passes version node cert i) (join_passes cert i) (arithmetic_passes cert i) (cut_passes cert i)

-- "lines are taken one at a time, 16 before its kind's number": the number of the first rule that line i breaks, 0 where it breaks
-- none
unfoldable pub line_fault : Version → (node cert : List ℕ) → (i : ℕ) → ℕ
line_fault version node cert i =
    unless (shape_passes node cert i) 16 (own_fault version node cert i)

abbrev pub line_passes : Version → (node cert : List ℕ) → (i : ℕ) → Bool
line_passes version node cert i = eqb (line_fault version node cert i) 0

-- the lowest line at fault, refused with the number of what it breaks
abbrev pub check_lines : {A : Type 0} → Option ℕ → (number : ℕ → ℕ) → Answer A → Answer A
check_lines (Some i) number rest = refused (number i) (AtLine i)
check_lines None number rest = rest

-- "with its depth and both line counts, as the trailer has them"
abbrev pub values_of : (cert : List ℕ) → CertificateValues
values_of cert = let t = trailer_of cert in record { depth = t.depth; base = t.base; step = t.step }

-- 21: "base first, after all lines"
unfoldable pub parts_verdict : Version → (node cert : List ℕ) → Answer CertificateValues
parts_verdict version node cert =
    check (has_empty (line_of cert) (base_of version node cert)) 21 Base
    (check (has_empty (line_of cert) (step_of node cert)) 21 Step
    (accepted (values_of cert)))

-- the checks of lines and parts: 16 to 20 and 22, then 21
unfoldable pub lines_verdict : Version → (node cert : List ℕ) → Answer CertificateValues
lines_verdict version node cert =
    check_lines (lowest (line_passes version node cert) (lines_of cert)) (line_fault version node cert) (parts_verdict version node cert)

-- the checks of the constraints: 15
unfoldable pub constraints_verdict : (node cert : List ℕ) → Answer (Unit {0})
constraints_verdict node cert =
    check_all (lowest (constraint_passes node cert) (trailer_of cert).constraints) 15 AtConstraint (accepted tt)

-- the checks of the certificate file, then those of its constraints: 11 to 15
unfoldable pub file_verdict : Version → (node cert : List ℕ) → Answer (Unit {0})
file_verdict version node cert =
    check (length_ok (length cert)) 11 File
    (check (fixed_ok version.byte (trailer_of cert)) 12 File
    (check (counts_ok (trailer_of cert)) 13 File
    (check (distance_ok (trailer_of cert) (length cert)) 14 File
    (constraints_verdict node cert))))

-- the checks before any line: "Certificate checks follow 1 to 8."
unfoldable pub before_lines : Version → (node cert : List ℕ) → Answer (Unit {0})
before_lines version node cert = and_then (node_verdict node) (file_verdict version node cert)

-- the answer by the rules of a version. Those of version 2 are what the code answers by.
unfoldable pub verdict_of : Version → (node cert : List ℕ) → Answer CertificateValues
verdict_of version node cert = and_then (before_lines version node cert) (lines_verdict version node cert)

-- "Archived verdicts and the theorem behind them remain": what was answered before version 2. No code answers so any more.
abbrev pub archived_verdict : (node cert : List ℕ) → Answer CertificateValues
archived_verdict node cert = verdict_of version1 node cert
