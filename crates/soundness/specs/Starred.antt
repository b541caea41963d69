-- The starred cases: one list, and one theorem over the list (proofs/StarredCases.antt). Those on certificates as they were answered in
-- version 1 are the archive's (archive/specs/Cases.antt), with its theorem.
use Rattle.std.specs.Prelude.{◌≡◌, ℕ, zero, suc, ◌+◌, ◌-◌, ◌*◌, ◌<◌, List, [], ◌∷◌, ◌++◌, ℤ, pos, neg_ℤ, length, replicate}
use Rattle.answers.specs.declared.Place.{Place}
use Rattle.answers.specs.declared.Place.TheVariants.{File, Record as AtRecord, Line as AtLine, Base}
use Rattle.answers.specs.Answer.{Answer, accepted, refused}
use Rattle.answers.specs.declared.NodeValues.{NodeValues}
use Rattle.answers.specs.declared.CertificateValues.{CertificateValues}
use Rattle.node.specs.Layout.{streams_of}
use Rattle.node.specs.Reads.{All}
use Rattle.node.specs.Verdict.{verdict_of as node_verdict}
use Rattle.node.specs.Written.{node_file}
use Rattle.constraints.specs.Linear.{variable}
use Rattle.literals.specs.Literals.{negative}
use Rattle.rules.specs.Verdict.{verdict_of}
use Rattle.rules.specs.Versions.{Version, version1, version2}
use Rattle.streams.specs.Nodes.{node_of}
use Rattle.streams.specs.Solutions.{Streams, Solution}
use Rattle.streams.specs.Typing.{Inputs, TypedInstant}
use Rattle.streams.specs.Values.{values_in}
use Rattle.session.specs.Instants.{answer_of, slice_of}
use Rattle.session.specs.Records.{begun}
use Rattle.soundness.specs.Files.{rec, term, at_most, line, certificate_file}

-- a just begun session's first call: its inputs, one number an input, and the values that it leaves, one number a stream
pub record FirstCall : Type 0 where
  pub file : List ℕ
  pub inputs : List ℤ
  pub values : List ℤ

pub data Case : Type 0 where
  -- the first call is answered with these values
  answers : FirstCall → Case
  -- the first call is refused
  refuses : (file : List ℕ) → (inputs : List ℤ) → (number : ℕ) → Place → Case
  -- a stream negated at an offset is the literal of this number
  negated_is : (stream offset literal : ℕ) → Case
  -- the answer to a node file
  reads : (file : List ℕ) → Answer NodeValues → Case
  -- the answer to a node file and a certificate, by the rules of a version
  checks : Version → (node cert : List ℕ) → Answer CertificateValues → Case

-- "Records: 0, 1 inputs; 2 not 0; 3 = 1 and 2; 4 = 0 and 3; 5 not 4, the property."
unfoldable pub two_bands : List ℕ
two_bands =
    node_file
    (rec 0 0 0 0 0 (pos 0)
    ∷ rec 0 0 0 0 0 (pos 0)
    ∷ rec 2 0 0 0 0 (pos 0)
    ∷ rec 3 0 1 2 0 (pos 0)
    ∷ rec 3 0 0 3 0 (pos 0)
    ∷ rec 2 0 4 0 0 (pos 0)
    ∷ [])
    5

-- 0 an int input; 1 = "Sum 0 + 0"; 2 the constant true, the property
unfoldable pub doubling : List ℕ
doubling = node_file (rec 0 1 0 0 0 (pos 0) ∷ rec 6 1 0 0 0 (pos 0) ∷ rec 1 0 0 0 0 (pos 1) ∷ []) 2

-- n bool inputs, the first the property
unfoldable pub of_size : (n : ℕ) → List ℕ
of_size n = node_file (replicate n (rec 0 0 0 0 0 (pos 0))) 0

-- 0 the constant true, the property
unfoldable pub constant_true : List ℕ
constant_true = node_file (rec 1 0 0 0 0 (pos 1) ∷ []) 0

-- stream s at offset j, and its negation, as literals
abbrev pub is : (j s : ℕ) → ℕ
is j s = 2 * variable j s

abbrev pub is_not : (j s : ℕ) → ℕ
is_not j s = negative (variable j s)

-- the property at offset j
abbrev prop : (j : ℕ) → ℕ
prop j = is j 0

-- a stream negated at the offsets from j on
abbrev pub negations : (s j left : ℕ) → List ℕ
negations s j zero = []
negations s j (suc left) = is_not j s ∷ negations s (suc j) left

-- the equations at the offsets from j on, lines 1 and on
abbrev equations : (j left : ℕ) → List (List ℕ)
equations j zero = []
equations j (suc left) = line 1 0 j 0 (prop j ∷ []) [] ∷ equations (suc j) left

-- the property line's literals struck one by one: `last` is the line before
abbrev strikes : (last j left : ℕ) → (at : ℕ) → List (List ℕ)
strikes last j zero at = []
strikes last j (suc left) at = line 3 (suc j) last (prop j) (negations 0 (suc j) left) [] ∷ strikes at (suc j) left (suc at)

-- a base that covers so many offsets strikes the property line's literals one by one
abbrev base : (covered : ℕ) → List (List ℕ)
base n = (line 2 0 0 0 (negations 0 0 n) [] ∷ equations 0 n) ++ strikes 0 0 n (n + 1)

-- the step, its lines numbered from `first` on, has one literal to strike
abbrev step : (first k : ℕ) → List (List ℕ)
step first k =
    line 2 0 k 0 (is_not k 0 ∷ []) []
    ∷ line 1 0 k 0 (prop k ∷ []) []
    ∷ line 3 (first + 1) first (prop k) [] []
    ∷ []

-- a whole certificate for it at depth k
unfoldable pub of_depth : Version → (k : ℕ) → List ℕ
of_depth version k =
    let n = version.covered k in
    certificate_file version k [] (base n) (step (2 * n + 1) k)

-- 0 the constant true, the property; 1 and 2 int inputs
unfoldable pub true_and_ints : List ℕ
true_and_ints = node_file (rec 1 0 0 0 0 (pos 1) ∷ rec 0 1 0 0 0 (pos 0) ∷ rec 0 1 0 0 0 (pos 0) ∷ []) 0

-- a whole certificate for it whose last base line is of kind 4 with multipliers 1 and 1: its literals are the negations of
-- "u − v at most" one bound and "v − u at most" another, u and v being 1 and 2, so that these two are its opposites
unfoldable pub opposites : Version → (one other : ℤ) → List ℕ
opposites version one other =
    let n = version.covered 1 in
    certificate_file version 1
    (at_most (term 1 0 (pos 1) ∷ term 2 0 (neg_ℤ (pos 1)) ∷ []) one ∷ at_most (term 1 0 (neg_ℤ (pos 1)) ∷ term 2 0 (pos 1) ∷ []) other ∷ [])
    (base n ++ line 4 0 0 0 (negative 576 ∷ negative 577 ∷ []) (1 ∷ 1 ∷ []) ∷ [])
    (step (2 * n + 2) 1)

-- "{5, 4}, join {4}, {!4, 0}, join {0}, {!4, 3}, join {3}, {!3, 2}, join {2}, {!2, !0}, join {!0}, join { }" at an offset, its lines
-- numbered from `first` on: `from` is the line with "{!5}", and `rest` what else stands in that, which all joins but none of the equations
-- have too
abbrev strike : (offset from first : ℕ) → (rest : List ℕ) → List (List ℕ)
strike j from first rest =
    line 1 5 j 0 (is j 5 ∷ is j 4 ∷ []) []
    ∷ line 3 from first (is_not j 5) (is j 4 ∷ rest) []
    ∷ line 1 4 j 0 (is_not j 4 ∷ is j 0 ∷ []) []
    ∷ line 3 (first + 1) (first + 2) (is j 4) (is j 0 ∷ rest) []
    ∷ line 1 4 j 1 (is_not j 4 ∷ is j 3 ∷ []) []
    ∷ line 3 (first + 1) (first + 4) (is j 4) (is j 3 ∷ rest) []
    ∷ line 1 3 j 1 (is_not j 3 ∷ is j 2 ∷ []) []
    ∷ line 3 (first + 5) (first + 6) (is j 3) (is j 2 ∷ rest) []
    ∷ line 1 2 j 1 (is_not j 2 ∷ is_not j 0 ∷ []) []
    ∷ line 3 (first + 7) (first + 8) (is j 2) (is_not j 0 ∷ rest) []
    ∷ line 3 (first + 3) (first + 9) (is j 0) rest []
    ∷ []

-- the same at so many offsets from j on, each from the line before its first
abbrev strike_all : (j first left : ℕ) → List (List ℕ)
strike_all j first zero = []
strike_all j first (suc left) = strike j (first - 1) first (negations 5 (suc j) left) ++ strike_all (suc j) (first + 11) left

-- the base of the two bands: of 12 lines in version 1, "redone at both base instants" of 23
abbrev bands_base : (covered : ℕ) → List (List ℕ)
bands_base n = line 2 0 0 0 (negations 5 0 n) [] ∷ strike_all 0 1 n

-- "The step is the same at offset 1.", its lines numbered from `first` on
abbrev bands_step : (first : ℕ) → List (List ℕ)
bands_step first = line 2 0 1 0 (is_not 1 5 ∷ []) [] ∷ strike 1 first (first + 1) []

-- the two bands' certificate, whole, and with its step alone
unfoldable pub bands_whole : Version → List ℕ
bands_whole version =
    let n = version.covered 1 in
    certificate_file version 1 [] (bands_base n) (bands_step (11 * n + 1))

unfoldable pub step_alone : Version → List ℕ
step_alone version = certificate_file version 1 [] [] (bands_step 0)

-- both bands are asked for at once
abbrev pub both_asked : FirstCall
both_asked =
    record {
      file = two_bands;
      inputs = pos 1 ∷ pos 1 ∷ [];
      values = pos 1 ∷ pos 1 ∷ pos 0 ∷ pos 0 ∷ pos 0 ∷ pos 1 ∷ [];
    }

-- the greatest and the least number whose double 64 signed bits hold
abbrev pub greatest_doubled : FirstCall
greatest_doubled =
    record {
      file = doubling;
      inputs = pos 4611686018427387903 ∷ [];
      values = pos 4611686018427387903 ∷ pos 9223372036854775806 ∷ pos 1 ∷ [];
    }

abbrev pub least_doubled : FirstCall
least_doubled =
    record {
      file = doubling;
      inputs = neg_ℤ (pos 4611686018427387904) ∷ [];
      values = neg_ℤ (pos 4611686018427387904) ∷ neg_ℤ (pos 9223372036854775808) ∷ pos 1 ∷ [];
    }

unfoldable pub cases : List Case
cases =
    -- "*Inputs 1, 1 give 1, 1, 0, 0, 0, 1."
    answers both_asked
    -- "*!5 at offset 0 is literal 11, at offset 1 it is 139."
    ∷ negated_is 5 0 11
    ∷ negated_is 5 1 139
    -- "*Sum 0 + 0 on input 4611686018427387903 gives 9223372036854775806; *one more is 34; *−4611686018427387904 is answered."
    ∷ answers greatest_doubled
    ∷ refuses doubling (pos 4611686018427387904 ∷ []) 34 (AtRecord 1)
    ∷ answers least_doubled
    -- "*Opposites "u − v at most −1" and "v − u at most 0" pass as kind 4, multipliers 1 and 1; *with both bounds 0 it is 20."
    ∷ checks version2 true_and_ints (opposites version2 (neg_ℤ (pos 1)) (pos 0)) (accepted (record { depth = 1; base = 6; step = 3 }))
    ∷ checks version2 true_and_ints (opposites version2 (pos 0) (pos 0)) (refused 20 (AtLine 5))
    -- "*Depth 8 passes, *9 is 13."
    ∷ checks version2 constant_true (of_depth version2 8) (accepted (record { depth = 8; base = 19; step = 3 }))
    ∷ checks version2 constant_true (of_depth version2 9) (refused 13 File)
    -- "*n = 64 passes, *65 is 3."
    ∷ reads (of_size 64) (accepted (record { streams = 64; property = 0 }))
    ∷ reads (of_size 65) (refused 3 File)
    -- "The two-band certificate, redone at both base instants, prints base 23 and step 12."
    ∷ checks version2 two_bands (bands_whole version2) (accepted (record { depth = 1; base = 23; step = 12 }))
    -- "*No base lines: 21.", though the step's lines are those of an accepted certificate
    ∷ checks version2 two_bands (step_alone version2) (refused 21 Base)
    -- "Version 1 files are now refused with 12.", such as the first that was accepted
    ∷ checks version2 two_bands (bands_whole version1) (refused 12 File)
    ∷ []

-- the file is accepted and the inputs are typed; the call is answered and leaves the values; and every solution on inputs that start
-- with them has these values at instant 0
pub record Answers (c : FirstCall) : Type 0 where
  pub node : NodeValues
  pub is_accepted_is : node_verdict c.file ≡ accepted node
  pub typed : TypedInstant (node_of c.file) c.inputs
  pub answered : answer_of (begun c.file) c.inputs (streams_of c.file) ≡ accepted tt
  pub left : (slice : List ℤ) → length slice ≡ streams_of c.file → slice_of (begun c.file) c.inputs slice ≡ c.values
  pub solved : (inputs : Inputs) (v : Streams) → Solution (node_of c.file) inputs v → inputs 0 ≡ c.inputs → (i : ℕ) → i < streams_of c.file → values_in c.values i ≡ v 0 i

abbrev pub Holds : Case → Type 0
Holds (answers c) = Answers c
Holds (refuses file inputs number place) = answer_of (begun file) inputs (streams_of file) ≡ refused number place
Holds (negated_is stream offset literal) = negative (variable offset stream) ≡ literal
Holds (reads file answer) = node_verdict file ≡ answer
Holds (checks version node cert answer) = verdict_of version node cert ≡ answer

abbrev pub Starred : Type 0
Starred = All Holds cases
