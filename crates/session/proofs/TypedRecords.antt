-- On every record that holds a node, what a trial works out fits its types. So the record that a trial leaves holds the node, and that
-- of its commit.
-- Assumes nothing.
use mathlib.Core.Path.{◌≡◌, refl, sym, subst}
use mathlib.Core.Bool.{Bool, true, false}
use mathlib.Core.List.{List}
use Prim.Native.Nat.{ℕ, suc, ◌<◌}
use native.Mathlib.Nat.{lt-suc_self}
use native.Mathlib.Omega.{arith}
use lib.IntN.{ℤ, pos}
use lib.ListN.{length, get_or-append}
use Rattle.answers.specs.Answer.{accepted}
use Rattle.answers.specs.declared.NodeValues.{NodeValues}
use Rattle.answers.specs.Checks.{every}
use Rattle.answers.proofs.Every.{every_all, every_of}
use Rattle.node.specs.Equations.{type_at}
use Rattle.node.specs.Layout.{streams_of}
use Rattle.node.specs.Reads.{order_of}
use Rattle.node.specs.Verdict.{verdict_of}
use Rattle.node.proofs.Outcomes.{is_accepted_is}
use Rattle.node.proofs.WellFormedness.{accepted_well_formed}
use Rattle.streams.specs.Evaluation.{instant}
use Rattle.streams.specs.Instant.{instant_of, filled}
use Rattle.streams.specs.Nodes.{node_of}
use Rattle.streams.specs.Typing.{Fits, TypedInstant}
use Rattle.streams.specs.Values.{values_in}
use Rattle.streams.proofs.Evaluations as Evaluations
use Rattle.streams.proofs.Keeping.{instant_keeps}
use Rattle.streams.proofs.Numbers.{fits_test_is}
use Rattle.streams.proofs.Orders.{place_of, ranked_by_place, worked_out_order_is}
use Rattle.streams.proofs.Types.{types_kept}
use Rattle.session.specs.declared.Session.{Session}
use Rattle.session.specs.Instants.{tried, moved_on}
use Rattle.session.specs.Lists.{Call, answer_to}
use Rattle.session.specs.Records.{held_file, unstarted, untried, value_typed, typed_unless, holds_node}
use Rattle.session.proofs.Answering.{held_short, held_accepted, held_typed, holds_by, answered_holds}
use Rattle.session.proofs.CallAnswers.{held_answered_typed}

-- an instant from values that fit gives values that do
module _ (file : List ℕ) {node : NodeValues} (e : verdict_of file ≡ accepted node) (inputs : List ℤ) (typed : TypedInstant (node_of file) inputs) (first : Bool) (last : List ℤ) (last_typed : typed_unless first file last ≡ true) where
  last_fits : first ≡ false → (i : ℕ) → i < streams_of file → Fits (type_at file i) (values_in last i)
  last_fits past i l =
      (fits_test_is (type_at file i) (values_in last i)).0 (every_all (value_typed file last) (streams_of file) (rw past at last_typed) i l)

  instant_fits : (i : ℕ) → i < streams_of file → Fits (type_at file i) (values_in (instant_of file inputs first last) i)
  unfolding instant_of
  instant_fits i l =
      let wf = accepted_well_formed file e in
      instant_keeps (node_of file) (place_of (node_of file)) (ranked_by_place (node_of file) wf) (λ k. Fits (type_at file k)) inputs first (values_in last) (values_in (instant (node_of file) (order_of file) inputs first last))
      (types_kept (node_of file) wf inputs typed first)
      (Evaluations.instant_rows (node_of file) (place_of (node_of file)) (order_of file) (worked_out_order_is (node_of file) wf) inputs first last)
      last_fits (suc (place_of (node_of file) i)) i l (lt-suc_self (place_of (node_of file) i))

  instant_length : length (instant_of file inputs first last) ≡ streams_of file
  unfolding instant_of
  instant_length = Evaluations.instant_length (node_of file) (order_of file) inputs first last

  instant_typed : every (value_typed file (filled 64 (pos 0) (instant_of file inputs first last))) (streams_of file) ≡ true
  instant_typed =
      every_of (value_typed file (filled 64 (pos 0) (instant_of file inputs first last))) (streams_of file)
      (λ i l.
      (fits_test_is (type_at file i) (values_in (filled 64 (pos 0) (instant_of file inputs first last)) i)).1
      (subst (Fits (type_at file i)) (sym (get_or-append (instant_of file inputs first last) _ (pos 0) i (omega (arith, instant_length)))) (instant_fits i l)))

-- the record that an answered trial leaves holds the node
pub trial_holds : (s : Session) (c : Call) → answer_to s c ≡ accepted tt → holds_node (tried s c.inputs) ≡ true
trial_holds s c e =
    let holds = answered_holds s c.inputs (length c.slice) e in
    let is_node_is = held_accepted s holds in
    holds_by (tried s c.inputs) (held_short s holds) is_node_is (held_typed s holds).0
    (instant_typed (held_file s) (is_accepted_is (held_file s) is_node_is) c.inputs (held_answered_typed s c e) (unstarted s) s.last (held_typed s holds).0)

-- .. and that of a commit
pub commit_holds : (s : Session) → holds_node s ≡ true → untried s ≡ false → holds_node (moved_on s) ≡ true
commit_holds s holds held =
    holds_by (moved_on s) (held_short s holds) (held_accepted s holds) (rw held at (held_typed s holds).1) refl
