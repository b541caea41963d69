-- The answer to a call where a session stands: 30 passes, 31 to 33 ask of the record what they ask of the file, and 34 searches the
-- solution's values.
-- Assumes nothing.
use mathlib.Core.Path.{◌≡◌, refl, sym, ◌∙◌, ap, ap₂, subst}
use mathlib.Core.Bool.{Bool, true, false, not, ◌||◌}
use mathlib.Core.List.{List}
use Prim.Native.Nat.{ℕ, ◌<◌}
use native.Mathlib.Omega.{arith}
use borrow.Author.Tests.{eq-eqb, eqb-true}
use lib.Dec.{eqb}
use lib.IntN.{ℤ}
use lib.ListN.{length, get_or}
use Rattle.integers.specs.Range.{inside}
use Rattle.answers.specs.declared.Place.TheVariants.{File, Record as AtRecord}
use Rattle.answers.specs.Answer.{Answer, accepted}
use Rattle.answers.specs.declared.NodeValues.{NodeValues}
use Rattle.answers.specs.Checks.{lowest}
use Rattle.answers.proofs.Checks.{by_check, by_check_all}
use Rattle.answers.proofs.Lowest.{none, all, lowest_same}
use Rattle.node.specs.Equations.{type_at, equation_at}
use Rattle.node.specs.Inputs.{is_input, input_count}
use Rattle.node.specs.Layout.{streams_of}
use Rattle.node.specs.Order.{place_in}
use Rattle.node.specs.Reads.{order_of}
use Rattle.node.specs.Verdict.{verdict_of}
use Rattle.node.proofs.Outcomes.{is_accepted_is}
use Rattle.node.proofs.WellFormedness.{accepted_well_formed}
use Rattle.streams.specs.Instant.{input_fits, value_inside, at_place, first_of, first_along}
use Rattle.streams.specs.Nodes.{Node, node_of, node_order}
use Rattle.streams.specs.Solutions.{Streams}
use Rattle.streams.specs.Typing.{TypedInstant, fits_test, given}
use Rattle.streams.specs.Values.{Values, values_in}
use Rattle.node.proofs.InputCounts.{input_equation, equation_input}
use Rattle.streams.proofs.Numbers.{fits_test_is}
use Rattle.session.specs.declared.Session.{Session}
use Rattle.session.specs.Instants.{worked_out, in_order, answer_of}
use Rattle.session.specs.Lists.{Call, Answered, answer_to}
use Rattle.session.specs.Records.{held_file, holds_node}
use Rattle.session.specs.Theorems.{Judged, input_typed, answer_given}
use Rattle.session.proofs.Answering.{not_answered, held_accepted, answered_holds}
use Rattle.session.proofs.Nodes.{input_fits_same}
use Rattle.session.proofs.Standing.{Standing, held_node, worked_out_is}
use Rattle.std.specs.Prelude.{None, Option, Some}

-- 34 is met where 31 and 33 pass
same_order : (count size : Bool) (input value other : Option ℕ) → (count ≡ true → input ≡ None → value ≡ other) → in_order true count size input value ≡ in_order true count size input other
same_order false size input value other h = refl
same_order true false input value other h = refl
same_order true true (Some i) value other h = refl
same_order true true None value other h = ap (in_order true true true None) (h refl refl)

-- tests that agree on all streams have the same first failure along the order
first_same : (file : List ℕ) {node : NodeValues} → verdict_of file ≡ accepted node → (f g : ℕ → Bool) → ((i : ℕ) → i < streams_of file → f i ≡ g i) → first_along (order_of file) f ≡ first_along (order_of file) g
unfolding first_of
first_same file e f g h =
    let ordered = (accepted_well_formed file e).ordered in
    ap (at_place (order_of file))
    (lowest_same (λ k. f (get_or (order_of file) k 0)) (λ k. g (get_or (order_of file) k 0)) (length (order_of file)) (λ k l. h (get_or (order_of file) k 0) (ordered.names k (omega (arith, ordered.size)))))

-- typed inputs pass 31 and 33 ..
module _ (file : List ℕ) (inputs : List ℤ) (is : TypedInstant (node_of file) inputs) where
  pub typed_count : eqb (length inputs) (input_count file) ≡ true
  typed_count = eq-eqb _ _ is.count

  pub typed_inputs : lowest (input_typed file inputs) (streams_of file) ≡ None
  typed_inputs = none (input_typed file inputs) (streams_of file) (λ i l. go i l (is_input file i) refl)
    where
      go : (i : ℕ) → i < streams_of file → (b : Bool) → is_input file i ≡ b → (not b || fits_test (type_at file i) (given (node_of file) inputs i)) ≡ true
      go i l true f = (fits_test_is (type_at file i) (given (node_of file) inputs i)).1 (is.fits i l (input_equation (equation_at file i) f))
      go i l false f = refl

module _ (file : List ℕ) {node : NodeValues} (e : verdict_of file ≡ accepted node) (c : Call) where
  -- .. and inputs that pass them are typed
  pub typed : eqb (length c.inputs) (input_count file) ≡ true → lowest (input_typed file c.inputs) (streams_of file) ≡ None → TypedInstant (node_of file) c.inputs
  typed count input =
      record {
        count = eqb-true _ _ count;
        fits = λ i l is.
            (fits_test_is (type_at file i) (given (node_of file) c.inputs i)).0
            (rw (equation_input (equation_at file i) is) at (all (input_typed file c.inputs) (streams_of file) input i l));
      }

  -- so the values matter where the inputs are typed
  same_answer : (values others : Values) → (TypedInstant (node_of file) c.inputs → (i : ℕ) → i < streams_of file → values i ≡ others i) → answer_given file c values ≡ answer_given file c others
  same_answer values others same =
      same_order (eqb (length c.inputs) (input_count file)) (eqb (length c.slice) (streams_of file)) (lowest (input_typed file c.inputs) (streams_of file)) _ _
      (λ count input.
      first_same file e (λ i. inside (values i)) (λ i. inside (others i)) (λ i l. ap inside (same (typed count input) i l)))

  given_typed : (values : Values) → answer_given file c values ≡ accepted tt → TypedInstant (node_of file) c.inputs
  given_typed values =
      let P : Answer (Unit {0}) → Type 0 = λ a. a ≡ accepted tt → TypedInstant (node_of file) c.inputs in
      by_check P (eqb (length c.inputs) (input_count file)) 31 File _ (λ f. not_answered) λ count.
      by_check P (eqb (length c.slice) (streams_of file)) 32 File _ (λ f. not_answered) λ room.
      by_check_all P (lowest (input_typed file c.inputs) (streams_of file)) 33 AtRecord _ (λ i f. not_answered) λ input.
      λ a. typed count input

  -- and no value of an answered call is outside
  given_inside : (values : Values) → answer_given file c values ≡ accepted tt → (i : ℕ) → i < streams_of file → inside (values i) ≡ true
  unfolding first_of
  given_inside values =
      let P : Answer (Unit {0}) → Type 0 = λ a. a ≡ accepted tt → (i : ℕ) → i < streams_of file → inside (values i) ≡ true in
      by_check P (eqb (length c.inputs) (input_count file)) 31 File _ (λ f. not_answered) λ count.
      by_check P (eqb (length c.slice) (streams_of file)) 32 File _ (λ f. not_answered) λ room.
      by_check_all P (lowest (input_typed file c.inputs) (streams_of file)) 33 AtRecord _ (λ i f. not_answered) λ input.
      by_check_all P (first_along (order_of file) (λ i. inside (values i))) 34 AtRecord _ (λ i f. not_answered) λ value.
      λ a i l.
      let ordered = (accepted_well_formed file e).ordered in
      subst (λ (k : ℕ). inside (values k) ≡ true) (ordered.at_place_is i l)
      (all (λ k. inside (values (get_or (order_of file) k 0))) (length (order_of file)) (no_place _ value) (place_in (order_of file) i) (omega (arith, ordered.size, ordered.has i l)))
    where
      no_place : (f : Option ℕ) → at_place (order_of file) f ≡ None → f ≡ None
      no_place (Some k) z = absurd (let w : ◌≡◌ {A = ℕ} 0 1 = cc in omega arith)
      no_place None z = refl

  module _ (done : List Answered) (s : Session) (stands : Standing file done s) where
    -- the answer is the one for the values worked out
    answer_is : answer_to s c ≡ answer_given file c (values_in (worked_out s c.inputs))
    unfolding answer_of input_fits
    answer_is =
        ap₂ (λ (b : Bool) (n : Node). in_order b (eqb (length c.inputs) n.inputs) (eqb (length c.slice) n.streams) (lowest (input_fits (held_file s) c.inputs) n.streams) (first_along (node_order n) (value_inside (worked_out s c.inputs))))
        stands.node
        (held_node file e done s stands)
        ∙ ap (λ (fit : ℕ → Bool). in_order true (eqb (length c.inputs) (input_count file)) (eqb (length c.slice) (streams_of file)) (lowest fit (streams_of file)) (first_along (order_of file) (value_inside (worked_out s c.inputs))))
        (ap (λ (f : List ℕ). input_fits f c.inputs) stands.holds ∙ input_fits_same file e c.inputs)

    -- .. which are those of the solution
    pub answer_given_is : (v : Streams) → (TypedInstant (node_of file) c.inputs → Judged file done c v) → answer_to s c ≡ answer_given file c (v (length done))
    answer_given_is v judged =
        answer_is
        ∙ same_answer (values_in (worked_out s c.inputs)) (v (length done))
        (λ typed. let j = judged typed in worked_out_is file e done s stands c.inputs j.0.inputs j.0.starts j.1 v j.0.solves)

    pub answered_typed : answer_to s c ≡ accepted tt → TypedInstant (node_of file) c.inputs
    answered_typed = rw answer_is (given_typed (values_in (worked_out s c.inputs)))

    pub answered_inside : answer_to s c ≡ accepted tt → (i : ℕ) → i < streams_of file → inside (values_in (worked_out s c.inputs) i) ≡ true
    answered_inside = rw answer_is (given_inside (values_in (worked_out s c.inputs)))

-- on every record an answered call's inputs are typed
module _ (s : Session) (c : Call) where
  held_answer_is : holds_node s ≡ true → answer_to s c ≡ answer_given (held_file s) c (values_in (worked_out s c.inputs))
  unfolding answer_of input_fits
  held_answer_is e = rw e refl

  pub held_answered_typed : answer_to s c ≡ accepted tt → TypedInstant (node_of (held_file s)) c.inputs
  held_answered_typed e =
      let holds = answered_holds s c.inputs (length c.slice) e in
      given_typed (held_file s) (is_accepted_is (held_file s) (held_accepted s holds)) c (values_in (worked_out s c.inputs)) (sym (held_answer_is holds) ∙ e)
