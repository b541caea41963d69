-- A look-up gives the defined value where all that is visited is inside, and 34 with the wanted record where some is not.
-- Assumes nothing.
use mathlib.Core.Path.{◌≡◌, refl, sym, ◌∙◌, ap}
use mathlib.Core.List.{List}
use Prim.Native.Nat.{ℕ, ◌<◌, ◌≤◌}
use native.Mathlib.Nat.{lt_of_le_of_lt, lt_of_lt_of_le}
use native.Mathlib.Omega.{arith}
use lib.IntN.{ℤ}
use lib.ListN.{length}
use Rattle.integers.specs.Range.{inside}
use Rattle.answers.specs.declared.Place.{Place}
use Rattle.answers.specs.declared.Place.TheVariants.{File, Record as AtRecord}
use Rattle.answers.specs.Answer.{Answer, accepted, refused}
use Rattle.answers.specs.declared.NodeValues.{NodeValues}
use Rattle.answers.specs.declared.Refusal.{Refusal}
use Rattle.answers.specs.Checks.{lowest, and_then}
use Rattle.answers.proofs.Checks.{by_check, by_check_all}
use Rattle.node.specs.Equations.{equation_at}
use Rattle.node.specs.Inputs.{input_count}
use Rattle.node.specs.Layout.{streams_of, property_of, trailer_of, type_byte_of}
use Rattle.node.specs.Reads.{order_of}
use Rattle.node.specs.Rules.{length_ok, fixed_ok, counts_ok, distance_ok, property_ok}
use Rattle.node.specs.declared.reading.RecordRule.TheVariants.{Shape, Operands, Types}
use Rattle.node.specs.Verdict.{passes_of, never_placed, types_verdict, records_verdict, verdict_of}
use Rattle.streams.specs.Solutions.{Streams}
use Rattle.histories.specs.History.{count_ok, bad_input, history_values}
use Rattle.histories.specs.Theorems.{SolvesHistory, HistoryMeans}
use Rattle.histories.proofs.Histories.{histories_mean}
use Rattle.look_up.specs.Visited.{VisitedInside, VisitedOutside}
use Rattle.look_up.specs.LookUp.{is_in, value_answer, history_answer, look_up_of}
use Rattle.look_up.specs.Theorems.{Asked, LooksUp, LookUpsExact}
use Rattle.look_up.proofs.Answers.{In, in_history, is_in_is, value_is, outside_is, well_typed}
use Rattle.look_up.proofs.Within.{inside_or_outside, visited_same, all_inside_same, within}
use Rattle.std.specs.Prelude.{Err, Ok}

refusal_number : {A : Type 0} (n m : ℕ) (p q : Place) → ◌≡◌ {A = Answer A} (refused n p) (refused m q) → n ≡ m
refusal_number n m p q e =
    let same : ◌≡◌ {A = Refusal} (record { number = n; place = p }) (record { number = m; place = q }) = cc in
    ap (λ (r : Refusal). r.number) same

-- no node file is refused with 34
module _ (file : List ℕ) where
  abbrev Other : Answer NodeValues → Type 0
  Other a = (number : ℕ) (place : Place) → a ≡ refused number place → number ≡ 34 → ⊥

  other : (n : ℕ) (p : Place) → (n ≡ 34 → ⊥) → Other (refused n p)
  other n p apart number place e f = apart (refusal_number n number p place e ∙ f)

  none : (v : NodeValues) → Other (accepted v)
  none v number place e f = let z : ◌≡◌ {A = ℕ} 0 1 = cc in omega arith

  not_34 : Other (verdict_of file)
  unfolding verdict_of records_verdict types_verdict
  not_34 =
      let n = streams_of file in
      by_check Other (length_ok (length file)) 1 File _ (λ f. other 1 File (omega arith)) λ _.
      by_check Other (fixed_ok (trailer_of file)) 2 File _ (λ f. other 2 File (omega arith)) λ _.
      by_check Other (counts_ok (trailer_of file)) 3 File _ (λ f. other 3 File (omega arith)) λ _.
      by_check Other (distance_ok (trailer_of file) (length file)) 4 File _ (λ f. other 4 File (omega arith)) λ _.
      by_check_all Other (lowest (passes_of file n Shape) n) 5 AtRecord _ (λ i f. other 5 (AtRecord i) (omega arith)) λ _.
      by_check_all Other (lowest (passes_of file n Operands) n) 6 AtRecord _ (λ i f. other 6 (AtRecord i) (omega arith)) λ _.
      by_check_all Other (never_placed (order_of file) n) 23 AtRecord _ (λ i f. other 23 (AtRecord i) (omega arith)) λ _.
      by_check_all Other (lowest (passes_of file n Types) n) 7 AtRecord _ (λ i f. other 7 (AtRecord i) (omega arith)) λ _.
      by_check Other (property_ok (type_byte_of file (property_of file))) 8 (AtRecord (property_of file)) _ (λ f. other 8 (AtRecord (property_of file)) (omega arith)) λ _.
      none _

module _ (file : List ℕ) (count : ℕ) (inputs : List ℤ) (stream instant : ℕ) (asked : Asked file count inputs stream instant) where
  abbrev w : Streams
  w = history_values file count inputs

  means : HistoryMeans file count inputs
  means = histories_mean file asked.node asked.accepts count inputs

  in_it : In (streams_of file) count stream instant
  in_it = record { short = asked.short; stream_in = asked.stream_in; instant_in = asked.instant_in }

  early : instant < 16
  early = lt_of_lt_of_le asked.instant_in asked.short

  -- nothing but 34 is left
  pub asked_answer : look_up_of file count inputs stream instant ≡ value_answer file w stream instant
  unfolding look_up_of
  asked_answer =
      let passes = means.passes asked.typed in
      rw asked.accepts (well_typed file count inputs stream instant passes.0 passes.1 ∙ rw (is_in_is (streams_of file) count stream instant in_it))

  -- a solution has the values of the history, up to the wanted instant
  same : (v : Streams) → SolvesHistory file count inputs v → (j r : ℕ) → j ≤ instant → r < streams_of file → v j r ≡ w j r
  same v solves j r l m = means.only v solves j r (lt_of_le_of_lt l asked.instant_in) m

  pub gives : (v : Streams) → SolvesHistory file count inputs v → VisitedInside (equation_at file) v instant stream → look_up_of file count inputs stream instant ≡ accepted (v instant stream)
  gives v solves all =
      let back : (j r : ℕ) → j ≤ instant → r < streams_of file → w j r ≡ v j r = λ j r l m. sym (same v solves j r l m) in
      asked_answer
      ∙ value_is file asked.accepts w stream instant (all_inside_same file asked.accepts w v instant stream early asked.stream_in back all)
      ∙ ap accepted (back instant stream (omega arith) asked.stream_in)

  refuses : (v : Streams) → SolvesHistory file count inputs v → VisitedOutside (equation_at file) v instant stream → look_up_of file count inputs stream instant ≡ refused 34 (AtRecord stream)
  refuses v solves some =
      let d = within file asked.accepts v early asked.stream_in some.visited in
      asked_answer
      ∙ outside_is file asked.accepts w stream instant early asked.stream_in
      (record {
        instant = some.instant;
        stream = some.stream;
        visited = visited_same file asked.accepts v w early asked.stream_in (same v solves) some.visited;
        leaves = ap inside (sym (same v solves some.instant some.stream d.0 d.1)) ∙ some.leaves;
      })

  pub looks_up : LooksUp file count inputs stream instant
  looks_up =
      record {
        solved = (w, means.solved asked.typed);
        gives = gives;
        refuses = refuses;
        either = λ v solves. inside_or_outside file asked.accepts v instant stream early asked.stream_in;
      }

-- a value or 34 is given to just what is asked
module _ (file : List ℕ) (count : ℕ) (inputs : List ℤ) (stream instant : ℕ) where
  pub record Good (a : Answer ℤ) : Type 0 where
    pub of_value : (x : ℤ) → a ≡ accepted x → Asked file count inputs stream instant
    pub of_34 : (place : Place) → a ≡ refused 34 place → Asked file count inputs stream instant

  refusal : (number : ℕ) (place : Place) → (number ≡ 34 → ⊥) → Good (refused number place)
  refusal number place other =
      record {
        of_value = λ x e. absurd (let z : ◌≡◌ {A = ℕ} 0 1 = cc in omega arith);
        of_34 = λ to e. absurd (other (refusal_number number 34 place to e));
      }

  history_asked : {node : NodeValues} → verdict_of file ≡ accepted node → Good (history_answer file count inputs stream instant)
  unfolding history_answer
  history_asked {node} e =
      by_check Good (count_ok count (input_count file) inputs) 31 File _ (λ f. refusal 31 File (omega arith)) λ counted.
      by_check_all Good (bad_input file inputs count) 33 AtRecord _ (λ i f. refusal 33 (AtRecord i) (omega arith)) λ typed.
      by_check Good (is_in (streams_of file) count stream instant) 65 File _ (λ f. refusal 65 File (omega arith)) λ is.
      let i = in_history (streams_of file) count stream instant is in
      let asked : Asked file count inputs stream instant = record {
        node = node;
        accepts = e;
        typed = (histories_mean file node e count inputs).passed counted typed;
        short = i.short;
        stream_in = i.stream_in;
        instant_in = i.instant_in;
      } in
      record { of_value = λ x a. asked; of_34 = λ place a. asked }

  answer_asked : Good (look_up_of file count inputs stream instant)
  unfolding look_up_of
  answer_asked = go (verdict_of file) refl
    where
      go : (a : Answer NodeValues) → verdict_of file ≡ a → Good (and_then a (history_answer file count inputs stream instant))
      go (Ok node) e = history_asked e
      go (Err r) e = refusal r.number r.place (λ f. not_34 file r.number r.place e f)

pub look_ups_exact : LookUpsExact
look_ups_exact =
    record {
      looks_up = looks_up;
      asked = λ file count inputs stream instant. (answer_asked file count inputs stream instant).of_value;
      asked_34 = λ file count inputs stream instant. (answer_asked file count inputs stream instant).of_34;
    }
