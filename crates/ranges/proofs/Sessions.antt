-- A session on a listed node, whose int inputs have all been inside their ranges, is never stopped by 34.
-- Assumes nothing.
use mathlib.Core.Path.{◌≡◌, refl, sym, ◌∙◌, ap, subst}
use mathlib.Core.Bool.{Bool, true, false, false≢true}
use mathlib.Core.List.{List}
use mathlib.Core.Logic.{⊎_elim}
use Prim.Native.Nat.{ℕ, ◌<◌, ◌≤◌}
use native.Mathlib.Nat.{eq-or-lt_of_le}
use native.Mathlib.Omega.{arith}
use lib.Dec.{eqb}
use lib.IntN.{ℤ, pos, nat_abs}
use lib.ListN.{length, get_or}
use mir.Syntax.{w64}
use Rattle.integers.specs.Range.{inside}
use Rattle.integers.proofs.Abs.{abs-≤, abs_fits}
use Rattle.integers.proofs.Order.{≤ℤ-trans}
use Rattle.integers.proofs.Within.{inside_fits}
use Rattle.answers.specs.declared.Place.{Place}
use Rattle.answers.specs.declared.Refusal.{Refusal}
use Rattle.answers.specs.declared.Place.TheVariants.{File, Record as AtRecord}
use Rattle.answers.specs.Answer.{Answer, accepted, refused}
use Rattle.answers.specs.declared.NodeValues.{NodeValues}
use Rattle.answers.specs.Checks.{lowest}
use Rattle.answers.proofs.Checks.{by_check, by_check_all}
use Rattle.answers.proofs.Lowest.{none}
use Rattle.node.specs.declared.equation.StreamType.{StreamType}
use Rattle.node.specs.declared.equation.StreamType.TheVariants.{Bool as BoolType, Int as IntType}
use Rattle.node.specs.Equations.{type_at}
use Rattle.node.specs.Inputs.{input_count}
use Rattle.node.specs.Layout.{streams_of, property_of}
use Rattle.node.specs.Reads.{order_of}
use Rattle.node.specs.Verdict.{verdict_of}
use Rattle.node.proofs.Outcomes.{keeps_accepted}
use Rattle.node.proofs.WellFormedness.{accepted_well_formed}
use Rattle.streams.specs.Instant.{first_of, first_along, at_place}
use Rattle.streams.specs.Nodes.{node_of}
use Rattle.streams.specs.Solutions.{Streams}
use Rattle.streams.specs.Typing.{Fits, TypedInstant}
use Rattle.streams.specs.Values.{Values, values_in}
use Rattle.streams.proofs.Reading.{all_map}
use Rattle.session.specs.declared.Session.{Session}
use Rattle.session.specs.Events.{begun_run, after_events, last_run}
use Rattle.session.specs.Lists.{Call, Answered, answer_to, call}
use Rattle.session.specs.Records.{begun_of}
use Rattle.session.specs.Theorems.{Shows, Exact, Solves, Judged, input_typed, answer_given}
use Rattle.session.proofs.CallAnswers.{typed_count, typed_inputs, typed}
use Rattle.session.proofs.Sessions.{sessions_exact, last_shows}
use Rattle.ranges.specs.declared.table.Range.{Range}
use Rattle.ranges.specs.Outcome.{ListedRules}
use Rattle.ranges.specs.Results.{single}
use Rattle.ranges.specs.Table.{range, range_in, range_ok, In, SmallEnds}
use Rattle.ranges.specs.Theorems.{InputsInside, ValuesInside, SolutionsInside, answer_inside, AllInside, ListStays, SessionsInside}
use Rattle.ranges.proofs.Extents.{in_single}
use Rattle.ranges.proofs.Outcomes.{listed_keeps}
use Rattle.ranges.proofs.Staying.{solution_in}
use Rattle.ranges.proofs.Tables.{ok_small}
use Rattle.std.specs.Prelude.{None, Option, Some, option_map}
use Rattle.std.specs.Result.{result_err}

-- ---- 64 bits hold what lies in a range, and a bool

small_inside : (r : Range) (z : ℤ) → SmallEnds r → In r z → inside z ≡ true
small_inside r z b h =
    let least = (abs-≤ 4000000000 r.least).0 b.least in
    let greatest = (abs-≤ 4000000000 r.greatest).0 b.greatest in
    let small : nat_abs z ≤ 4000000000 = (abs-≤ 4000000000 z).1 (≤ℤ-trans _ _ _ least.0 h.above, ≤ℤ-trans _ _ _ h.below greatest.1) in
    (inside_fits z).1 (abs_fits w64 z (omega arith))

value_inside_is : (ty : StreamType) (r : Range) (z : ℤ) → range_ok ty r ≡ true → Fits ty z → (ty ≡ IntType → In r z) → inside z ≡ true
value_inside_is BoolType r z ok fits h = small_inside (range (pos 0) (pos 1)) z (record { least = omega arith; greatest = omega arith }) (record { above = fits.0; below = fits.1 })
value_inside_is IntType r z ok fits h = small_inside r z (ok_small IntType r ok) (h refl)

-- where each value is inside, none is the first outside
none_along : (file : List ℕ) {node : NodeValues} → verdict_of file ≡ accepted node → (ok : ℕ → Bool) → ((i : ℕ) → i < streams_of file → ok i ≡ true) → first_along (order_of file) ok ≡ None
unfolding first_of
none_along file e ok h =
    let ordered = (accepted_well_formed file e).ordered in
    ap (at_place (order_of file)) (none (λ k. ok (get_or (order_of file) k 0)) (length (order_of file)) (λ k l. h (get_or (order_of file) k 0) (ordered.names k (omega (arith, ordered.size)))))

nothing_found : {i : ℕ} → ¬ (None ≡ Some i)
nothing_found e = let n : ◌≡◌ {A = ℕ} 0 1 = cc in omega arith

module _ (file : List ℕ) (table : List ℤ) (listed : ListedRules file table) where
  is_node_is : verdict_of file ≡ accepted (record { streams = streams_of file; property = property_of file })
  is_node_is = keeps_accepted file listed.node

  -- values of a solution that are in their ranges, 64 bits hold
  values_inside : (values : Values) → ((i : ℕ) → i < streams_of file → Fits (type_at file i) (values i)) → ValuesInside file table values → (i : ℕ) → i < streams_of file → inside (values i) ≡ true
  values_inside values fits h i l = value_inside_is (type_at file i) (range_in table i) (values i) (listed.ends i l) (fits i l) (h i l)

  -- the answer for such values
  answer_inside_is : (c : Call) (values : Values) → ((i : ℕ) → i < streams_of file → inside (values i) ≡ true) → answer_given file c values ≡ answer_inside file c
  answer_inside_is c values h = rw (none_along file is_node_is (λ i. inside (values i)) h)

  module _ (done : List Answered) (inputs_inside : AllInside file table done) where
    -- values of a solution on the answered inputs and perhaps one more
    stays : (v : Streams) (of_v : Solves file done v) (t : ℕ) → t < length done → ValuesInside file table (v t)
    stays v of_v t l =
        solution_in file table is_node_is listed.results of_v.inputs v of_v.solves t
        (λ j m. subst (InputsInside file table) (sym (of_v.starts j (omega arith))) (inputs_inside j (omega arith)))

    shown_inside : Shows file done → (t : ℕ) → t < length done → ValuesInside file table (values_in (call done t).values)
    shown_inside shows t l i m int =
        let of_v = shows.solved.1 in
        subst (In (range_in table i))
        (sym (shows.shown t l of_v.inputs of_v.typed (λ j k. of_v.starts j (omega arith)) shows.solved.0 of_v.solves i m))
        (stays shows.solved.0 of_v t l i m int)

    -- the next call
    module _ (c : Call) (own_inside : InputsInside file table c.inputs) where
      next_inputs : (v : Streams) (judged : Judged file done c v) (j : ℕ) → j ≤ length done → InputsInside file table (judged.0.inputs j)
      next_inputs v judged j m =
          ⊎_elim (λ (e : j ≡ length done). subst (InputsInside file table) (sym (ap judged.0.inputs e ∙ judged.1)) own_inside)
          (λ (l : j < length done). subst (InputsInside file table) (sym (judged.0.starts j l)) (inputs_inside j l))
          (eq-or-lt_of_le m)

      next_inside : (v : Streams) → Judged file done c v → (i : ℕ) → i < streams_of file → inside (v (length done) i) ≡ true
      next_inside v judged =
          values_inside (v (length done)) (judged.0.solves.fits (length done))
          (solution_in file table is_node_is listed.results judged.0.inputs v judged.0.solves (length done) (next_inputs v judged))

      module _ (s : Session) (exact : Exact file s done c) where
        -- inputs that are not typed are refused whatever the values
        untyped : ¬ (TypedInstant (node_of file) c.inputs) → answer_to s c ≡ answer_inside file c
        untyped not-typed =
            exact.answers (λ t i. pos 0) (λ typed. absurd (not-typed typed))
            ∙ answer_inside_is c (λ i. pos 0) (λ i l. small_inside (single (pos 0)) (pos 0) (record { least = omega arith; greatest = omega arith }) (in_single (pos 0)))

        call_inside : answer_to s c ≡ answer_inside file c
        call_inside = by (eqb (length c.inputs) (input_count file)) refl (lowest (input_typed file c.inputs) (streams_of file)) refl
          where
            by : (b : Bool) → eqb (length c.inputs) (input_count file) ≡ b → (found : Option ℕ) → lowest (input_typed file c.inputs) (streams_of file) ≡ found → answer_to s c ≡ answer_inside file c
            by false e found f = untyped (λ is. false≢true (sym e ∙ typed_count file c.inputs is))
            by true e (Some i) f = untyped (λ is. nothing_found (sym (typed_inputs file c.inputs is) ∙ f))
            by true e None f =
                let judged = exact.judged (typed file is_node_is c e f) in
                exact.answers judged.0 (λ is. judged.1)
                ∙ answer_inside_is c (judged.0 (length done)) (next_inside judged.0 judged.1)

-- 31 to 33 are not 34
not_34 : {number : ℕ} {place other : Place} → number < 34 → ◌≡◌ {A = Answer (Unit {0})} (refused number place) (refused 34 other) → ⊥
not_34 {number} l e =
    let numbers : Some number ≡ Some 34 = ap (λ (a : Answer (Unit {0})). option_map (λ (r : Refusal). r.number) (result_err a)) e in
    let n : number ≡ 34 = cc in
    omega arith

never_34 : (file : List ℕ) (c : Call) (place : Place) → ¬ (answer_inside file c ≡ refused 34 place)
never_34 file c place =
    let P : Answer (Unit {0}) → Type 0 = λ a. ¬ (a ≡ refused 34 place) in
    by_check P (eqb (length c.inputs) (input_count file)) 31 File _ (λ f. not_34 (omega arith)) λ count.
    by_check P (eqb (length c.slice) (streams_of file)) 32 File _ (λ f. not_34 (omega arith)) λ room.
    by_check_all P (lowest (input_typed file c.inputs) (streams_of file)) 33 AtRecord _ (λ i f. not_34 (omega arith)) λ input.
    λ e. let n : ◌≡◌ {A = ℕ} 0 1 = cc in omega arith

pub solutions_inside : SolutionsInside
solutions_inside file table e =
    let listed = listed_keeps file table e in
    solution_in file table (is_node_is file table listed) listed.results

pub sessions_inside : SessionsInside
sessions_inside file table e before events on_file =
    let listed = listed_keeps file table e in
    let s = begun_of file before in
    let r = last_run s (begun_run file) events in
    let exact = sessions_exact file _ (is_node_is file table listed) before events in
    let shown = last_shows file (is_node_is file table listed) before events in
    let stays : (done : List Answered) → Shows r.node done → ListStays file table done = λ done shows inputs_inside. shown_inside file table listed done inputs_inside (subst (λ (n : List ℕ). Shows n done) on_file shows) in
    let answers : AllInside file table r.done → (c : Call) → InputsInside file table c.inputs → answer_to (after_events s events) c ≡ answer_inside file c = λ inputs_inside c own. call_inside file table listed r.done inputs_inside c own (after_events s events) (subst (λ (n : List ℕ). Exact n (after_events s events) r.done c) on_file (exact.1.calls c)) in
    record {
      commits = stays r.done shown.commits;
      trials = all_map {P = Shows r.node} {Q = ListStays file table} stays r.tried shown.trials;
      answers = answers;
      never_34 = λ inputs_inside c own place f. never_34 file c place (sym (answers inputs_inside c own) ∙ f);
    }
