-- Number 0 says accepted: every refusal's number is above 0.
-- Assumes nothing.
use mathlib.Core.Path.{◌≡◌, refl, subst}
use mathlib.Core.Bool.{Bool, true, false, not}
use mathlib.Core.List.{List}
use Prim.Native.Nat.{ℕ, ◌+◌, ◌*◌, ◌<◌}
use native.Mathlib.Omega.{arith}
use borrow.Author.Tests.{eqb-false}
use lib.Dec.{eqb}
use lib.IntN.{ℤ}
use lib.ListN.{length}
use Rattle.answers.specs.declared.Place.{Place}
use Rattle.answers.specs.declared.Place.TheVariants.{File, Record as AtRecord, Constraint as AtConstraint, Line as AtLine, Base, Step}
use Rattle.answers.specs.Answer.{Answer, accepted, refused, is_accepted, TurnAnswer, final, unfinished}
use Rattle.answers.specs.declared.NodeValues.{NodeValues}
use Rattle.answers.specs.declared.CertificateValues.{CertificateValues}
use Rattle.answers.specs.Checks.{check, check_all, every, lowest, and_then}
use Rattle.answers.proofs.Lowest.{first}
use Rattle.node.specs.declared.reading.RecordRule.TheVariants.{Shape, Operands, Types}
use Rattle.node.specs.Equations.{equation_at}
use Rattle.node.specs.Inputs.{input_count}
use Rattle.node.specs.Layout as node_layout
use Rattle.node.specs.Layout.{streams_of, property_of}
use Rattle.node.specs.Reads.{order_of}
use Rattle.node.specs.Rules as node_rules
use Rattle.node.specs.Rules.{length_ok}
use Rattle.node.specs.Verdict.{passes_of, never_placed, types_verdict, records_verdict, verdict_of as node_verdict}
use Rattle.streams.specs.Instant.{input_fits, value_inside, first_along}
use Rattle.session.specs.declared.Session.{Session}
use Rattle.session.specs.Instants.{worked_out, answer_of, commit_answer}
use Rattle.session.specs.Records.{held_file, untried, holds_node}
use Rattle.histories.specs.History.{count_ok, bad_input, history_values}
use Rattle.look_up.specs.Visited.{inside_in}
use Rattle.look_up.specs.LookUp.{is_in, value_answer, history_answer, look_up_of}
use Rattle.ranges.specs.Listing.{length_ok as table_length_ok, ends_ok, results_ok, table_verdict, listing_of}
use Rattle.constraints.specs.Layout.{trailer_of, line_of}
use Rattle.constraints.specs.Rules.{fixed_ok, counts_ok, distance_ok}
use Rattle.rules.specs.Lines.{has_empty}
use Rattle.rules.specs.Turns.{due_of, turn_of}
use Rattle.rules.specs.Verdict.{lines_of, base_of, step_of, constraint_passes, line_fault, line_passes, check_lines, parts_verdict, lines_verdict, constraints_verdict, file_verdict, before_lines, verdict_of}
use Rattle.rules.specs.Versions.{version2}
use Rattle.rules.proofs.Turns.{moved_answer, by_turn}
use Rattle.capi.specs.declared.told.Told.{Told}
use Rattle.capi.specs.Answers.{told_accepted, told_of, told_node, told_certificate, told_plain, told_answer, told_turn, told_look_up}
use Rattle.capi.specs.Theorems.{ZeroAccepts}
use Rattle.std.specs.Prelude.{Err, None, Ok, Option, Some}

-- a refusal's number is above 0
unfoldable Numbered : {A : Type 0} → Answer A → Type 0
Numbered (Ok a) = Unit {0}
Numbered (Err r) = 0 < r.number

above : (A : Type 0) (number : ℕ) (place : Place) → 0 < number → Numbered {A = A} (refused number place)
unfolding Numbered
above A number place l = l

none : {A : Type 0} (a : A) → Numbered (accepted a)
unfolding Numbered
none a = tt

numbered : (number : ℕ) (place : Place) → Numbered {A = Unit {0}} (refused number place) → 0 < number
unfolding Numbered
numbered number place l = l

not_zero : (A : Type 0) (number : ℕ) (place : Place) → Numbered {A = A} (refused number place) → number ≡ 0 → ⊥
unfolding Numbered
not_zero A number place l e = omega arith

module _ {A : Type 0} where
  tested : (passes : Bool) (number : ℕ) (place : Place) (rest : Answer A) → 0 < number → Numbered rest → Numbered (check passes number place rest)
  tested true number place rest l n = n
  tested false number place rest l n = above A number place l

  tested_all : (found : Option ℕ) (number : ℕ) (place : ℕ → Place) (rest : Answer A) → 0 < number → Numbered rest → Numbered (check_all found number place rest)
  tested_all (Some i) number place rest l n = above A number (place i) l
  tested_all None number place rest l n = n

node_numbered : (file : List ℕ) → Numbered (node_verdict file)
unfolding node_verdict records_verdict types_verdict
node_numbered file =
    let n = streams_of file in
    tested (length_ok (length file)) 1 File _ (omega arith)
    (tested (node_rules.fixed_ok (node_layout.trailer_of file)) 2 File _ (omega arith)
    (tested (node_rules.counts_ok (node_layout.trailer_of file)) 3 File _ (omega arith)
    (tested (node_rules.distance_ok (node_layout.trailer_of file) (length file)) 4 File _ (omega arith)
    (tested_all (lowest (passes_of file n Shape) n) 5 AtRecord _ (omega arith)
    (tested_all (lowest (passes_of file n Operands) n) 6 AtRecord _ (omega arith)
    (tested_all (never_placed (order_of file) n) 23 AtRecord _ (omega arith)
    (tested_all (lowest (passes_of file n Types) n) 7 AtRecord _ (omega arith)
    (tested (node_rules.property_ok (node_layout.type_byte_of file (property_of file))) 8 (AtRecord (property_of file)) _ (omega arith)
    (none _)))))))))

lines : {A : Type 0} (found : Option ℕ) (number : ℕ → ℕ) (rest : Answer A) → ((i : ℕ) → found ≡ Some i → 0 < number i) → Numbered rest → Numbered (check_lines found number rest)
lines {A} (Some i) number rest l n = above A (number i) (AtLine i) (l i refl)
lines None number rest l n = n

-- the number of a line that breaks a rule
line_above : (node cert : List ℕ) (i : ℕ) → line_passes version2 node cert i ≡ false → 0 < line_fault version2 node cert i
line_above node cert i e = omega (arith, eqb-false (line_fault version2 node cert i) 0 e)

parts_numbered : (node cert : List ℕ) → Numbered (parts_verdict version2 node cert)
unfolding parts_verdict
parts_numbered node cert =
    tested (has_empty (line_of cert) (base_of version2 node cert)) 21 Base _ (omega arith)
    (tested (has_empty (line_of cert) (step_of node cert)) 21 Step _ (omega arith)
    (none _))

lines_numbered : (node cert : List ℕ) → Numbered (lines_verdict version2 node cert)
unfolding lines_verdict
lines_numbered node cert =
    lines (lowest (line_passes version2 node cert) (lines_of cert)) (line_fault version2 node cert) _ (λ i e. line_above node cert i (first _ _ _ e).fails)
    (parts_numbered node cert)

file_numbered : (node cert : List ℕ) → Numbered (file_verdict version2 node cert)
unfolding file_verdict constraints_verdict
file_numbered node cert =
    let t = trailer_of cert in
    tested (length_ok (length cert)) 11 File _ (omega arith)
    (tested (fixed_ok 2 t) 12 File _ (omega arith)
    (tested (counts_ok t) 13 File _ (omega arith)
    (tested (distance_ok t (length cert)) 14 File _ (omega arith)
    (tested_all (lowest (constraint_passes node cert) t.constraints) 15 AtConstraint _ (omega arith)
    (none _)))))

after : {A B : Type 0} (a : Answer A) (b : Answer B) → Numbered a → Numbered b → Numbered (and_then a b)
unfolding Numbered
after (Ok v) b n m = m
after (Err r) b n m = n

before_numbered : (node cert : List ℕ) → Numbered (before_lines version2 node cert)
unfolding before_lines
before_numbered node cert =
    after (node_verdict node) (file_verdict version2 node cert) (node_numbered node) (file_numbered node cert)

verdict_numbered : (node cert : List ℕ) → Numbered (verdict_of version2 node cert)
unfolding verdict_of
verdict_numbered node cert =
    after (before_lines version2 node cert) (lines_verdict version2 node cert) (before_numbered node cert) (lines_numbered node cert)

-- a turn's answer, whose refusals are those of the checks before lines, 55, those of lines and 21
TurnNumbered : TurnAnswer → Type 0
TurnNumbered (final a) = Numbered a
TurnNumbered unfinished = Unit {0}

above_final : (number : ℕ) (place : Place) → 0 < number → TurnNumbered (final (refused number place))
unfolding TurnNumbered
above_final number place l = above CertificateValues number place l

turn_numbered : (node cert : List ℕ) (line quota : ℕ) → TurnNumbered (turn_of version2 node cert line quota).answer
unfolding TurnNumbered
turn_numbered node cert line quota =
    by_turn version2 node cert line quota (λ t. TurnNumbered t.answer)
    (λ number place e. above_final number place (numbered number place (subst Numbered e (before_numbered node cert))))
    (λ _ _. above_final 55 File (omega arith))
    (λ _ _ j low. above_final _ (AtLine (line + j)) (line_above node cert (line + j) low.fails))
    (λ _ _ _ _. tt)
    (λ _ _ _ _. rw (moved_answer (parts_verdict version2 node cert) line (due_of cert line quota)) (parts_numbered node cert))

instant_numbered : (s : Session) (inputs : List ℤ) (room : ℕ) → Numbered (answer_of s inputs room)
unfolding answer_of
instant_numbered s inputs room =
    let n = streams_of (held_file s) in
    tested (holds_node s) 30 File _ (omega arith)
    (tested (eqb (length inputs) (input_count (held_file s))) 31 File _ (omega arith)
    (tested (eqb room n) 32 File _ (omega arith)
    (tested_all (lowest (input_fits (held_file s) inputs) n) 33 AtRecord _ (omega arith)
    (tested_all (first_along (order_of (held_file s)) (value_inside (worked_out s inputs))) 34 AtRecord _ (omega arith)
    (none _)))))

commit_numbered : (s : Session) → Numbered (commit_answer s)
unfolding commit_answer
commit_numbered s =
    tested (holds_node s) 30 File _ (omega arith)
    (tested (not (untried s)) 35 File _ (omega arith)
    (none _))

listing_numbered : (file : List ℕ) (table : List ℤ) → Numbered (listing_of file table)
unfolding listing_of table_verdict
listing_numbered file table =
    let n = streams_of file in
    after (node_verdict file) (table_verdict file table) (node_numbered file)
    (tested (table_length_ok file table) 71 File _ (omega arith)
    (tested (every (ends_ok file table) n) 71 File _ (omega arith)
    (tested_all (lowest (results_ok file table) n) 72 AtRecord _ (omega arith)
    (none _))))

look_up_numbered : (file : List ℕ) (count : ℕ) (inputs : List ℤ) (stream instant : ℕ) → Numbered (look_up_of file count inputs stream instant)
unfolding look_up_of history_answer value_answer
look_up_numbered file count inputs stream instant =
    after (node_verdict file) (history_answer file count inputs stream instant) (node_numbered file)
    (tested (count_ok count (input_count file) inputs) 31 File _ (omega arith)
    (tested_all (bad_input file inputs count) 33 AtRecord _ (omega arith)
    (tested (is_in (streams_of file) count stream instant) 65 File _ (omega arith)
    (tested (inside_in (equation_at file) (history_values file count inputs) (16 * 64) instant stream) 34 (AtRecord stream) _ (omega arith)
    (none _)))))

look_up_accepts : (a : Answer ℤ) → Numbered a → (told_look_up a).answer.number ≡ 0 → is_accepted a ≡ true
unfolding told_look_up
look_up_accepts (Ok x) n e = refl
look_up_accepts (Err r) n e = absurd (not_zero _ r.number r.place n e)

turn_accepts : (a : TurnAnswer) → TurnNumbered a → (told_answer a).number ≡ 0 → (v : CertificateValues) × (a ≡ final (accepted v))
unfolding TurnNumbered told_answer told_certificate
turn_accepts (final (Ok v)) n e = (v, refl)
turn_accepts (final (Err r)) n e = absurd (not_zero _ r.number r.place n e)
turn_accepts unfinished n e = absurd (omega (arith, e))

zero_accepts : {A : Type 0} (values : A → Told) (a : Answer A) → Numbered a → (told_of values a).number ≡ 0 → is_accepted a ≡ true
zero_accepts values (Ok v) n e = refl
zero_accepts values (Err r) n e = absurd (not_zero _ r.number r.place n e)

pub zero : ZeroAccepts
unfolding told_node told_certificate told_plain told_turn
zero =
    record {
      node = λ file. zero_accepts (λ (v : NodeValues). told_accepted v.streams v.property 0) (node_verdict file) (node_numbered file);
      certificate = λ node cert. zero_accepts (λ (v : CertificateValues). told_accepted v.depth v.base v.step) (verdict_of version2 node cert) (verdict_numbered node cert);
      turn = λ node cert line quota. turn_accepts (turn_of version2 node cert line quota).answer (turn_numbered node cert line quota);
      instant = λ s inputs room. zero_accepts (λ (_ : Unit {0}). told_accepted 0 0 0) (answer_of s inputs room) (instant_numbered s inputs room);
      commit = λ s. zero_accepts (λ (_ : Unit {0}). told_accepted 0 0 0) (commit_answer s) (commit_numbered s);
      ranges = λ file table. zero_accepts (λ (_ : Unit {0}). told_accepted 0 0 0) (listing_of file table) (listing_numbered file table);
      look_up = λ file count inputs stream instant. look_up_accepts (look_up_of file count inputs stream instant) (look_up_numbered file count inputs stream instant);
    }
