-- The note means nothing: an accepted file without its note, or with another, is accepted with the same values and decodes to
-- the same records.
-- Assumes nothing.
use mathlib.Core.Path.{◌≡◌, sym, ◌∙◌, ap, ap₂, fun_ext}
use mathlib.Core.Bool.{true, cond, ◌&&◌}
use mathlib.Core.List.{List}
use Prim.Native.Nat.{ℕ, ◌+◌, ◌-◌, ◌≤◌}
use native.Mathlib.Nat.{add_assoc}
use native.Mathlib.Omega.{arith}
use borrow.Author.Tests.{le-leb, eq-eqb}
use lib.Dec.{ltb}
use lib.ListN.{length, drop, length-drop}
use lib.Seq.{get_or-drop}
use Rattle.answers.specs.Answer.{accepted}
use Rattle.answers.specs.declared.NodeValues.{NodeValues}
use Rattle.node.specs.declared.layout.Trailer.{Trailer}
use Rattle.node.specs.declared.layout.Record.{Record}
use Rattle.node.specs.declared.reading.RecordRule.{RecordRule}
use Rattle.node.specs.declared.reading.RecordRule.TheVariants.{Shape, Operands, Types}
use Rattle.node.specs.Layout.{trailer_at, trailer_of, record_at, streams_of, property_of, size_of, records_of, empty_record, record_among, record_of, type_byte_of}
use Rattle.node.specs.Order.{is_among}
use Rattle.node.specs.Outcome.{FileRules, NodeRules, AllKeep}
use Rattle.node.specs.Reads.{worked_out_order, order_of}
use Rattle.node.specs.Rules.{length_ok, fixed_ok, counts_ok, distance_ok, shape_ok, operands_ok, types_ok, property_ok}
use Rattle.node.specs.Verdict.{passes_of, verdict_of}
use Rattle.node.specs.Equations.{type_of, type_among, type_at, decoded, equation_at}
use Rattle.node.specs.Note.{note_length, without_note}
use Rattle.node.proofs.FileRules.{Sizes, sizes}
use Rattle.node.proofs.Notes.{accepted_room, note_is}
use Rattle.node.proofs.Outcomes.{accepted_keeps, accepted_values, keeps_accepted}

module _ (k : ℕ) (s : List ℕ) where
  pub trailer_on : (at : ℕ) → trailer_at (drop k s) at ≡ trailer_at s (k + at)
  trailer_on at = simp (get_or-drop, ← add_assoc)

  pub record_on : (at : ℕ) → record_at (drop k s) at ≡ record_at s (k + at)
  record_on at = simp (get_or-drop, ← add_assoc)

  -- the same trailer, where it is left whole
  trailer_same : k + 16 ≤ length s → trailer_of (drop k s) ≡ trailer_of s
  trailer_same h = trailer_on _ ∙ ap (trailer_at s) (rw (length-drop k s) (omega arith))

module _ (s : List ℕ) (rules : NodeRules s) (k : ℕ) (left : k + size_of (streams_of s) ≤ length s) where
  -- what is left of the file without its first k bytes, the records and the trailer among it
  abbrev rest : List ℕ
  rest = drop k s

  whole : Sizes s
  whole = sizes s rules.file

  size : length rest ≡ length s - k
  size = length-drop k s

  trailer_is : trailer_of rest ≡ trailer_of s
  trailer_is = trailer_same k s (omega arith)

  streams_is : streams_of rest ≡ streams_of s
  streams_is = ap (λ (t : Trailer). t.streams) trailer_is

  records_is : records_of rest ≡ streams_of s
  unfolding records_of
  records_is = rw (streams_is, le-leb 16 (length rest) (omega (arith, size)), le-leb (size_of (streams_of s)) (length rest) (omega (arith, size)))

  record_is : (i : ℕ) → record_of rest i ≡ record_of s i
  unfolding record_among
  record_is i =
      rw (records_is, whole.records, le-leb (size_of (streams_of s)) (length rest) (omega (arith, size)), le-leb _ _ whole.room)
      (ap (λ (r : Record). cond (ltb i (streams_of s) && true) r empty_record)
      (record_on k s _ ∙ ap (record_at s) (omega (arith, size))))

  passes_is : (rule : RecordRule) (i : ℕ) → passes_of rest (streams_of rest) rule i ≡ passes_of s (streams_of s) rule i
  passes_is Shape i = ap shape_ok (record_is i)
  passes_is Operands i = ap₂ operands_ok streams_is (record_is i)
  passes_is Types i = ap₂ types_ok (fun_ext (λ j. ap (λ (r : Record). r.ty) (record_is j))) (record_is i)

  all_keep : (rule : RecordRule) → AllKeep s rule → AllKeep rest rule
  all_keep rule keep i l = passes_is rule i ∙ keep i (rw streams_is at l)

  order_is : order_of rest ≡ order_of s
  order_is = ap₂ worked_out_order (fun_ext (λ i. ap decoded (record_is i))) streams_is

  file_rules : FileRules rest
  unfolding length_ok distance_ok
  file_rules =
      record {
        size = rw (le-leb 16 (length rest) (omega (arith, size)), le-leb (length rest) 65535 (omega (arith, size, whole.most)));
        fixed = ap fixed_ok trailer_is ∙ rules.file.fixed;
        counts = ap counts_ok trailer_is ∙ rules.file.counts;
        distance =
            ap (λ (t : Trailer). distance_ok t (length rest)) trailer_is
            ∙ rw (eq-eqb _ _ whole.distance, le-leb (trailer_of s).distance (length rest) (omega (arith, size, whole.distance)));
      }

  rest_rules : NodeRules rest
  rest_rules =
      record {
        file = file_rules;
        shapes = all_keep Shape rules.shapes;
        operands = all_keep Operands rules.operands;
        placed = λ i l. ap (λ (order : List ℕ). is_among order i) order_is ∙ rules.placed i (rw streams_is at l);
        types = all_keep Types rules.types;
        property =
            ap (λ (t : Trailer). property_ok (type_byte_of rest t.property)) trailer_is
            ∙ ap (λ (r : Record). property_ok r.ty) (record_is (property_of s))
            ∙ rules.property;
      }

  rest_values : verdict_of rest ≡ accepted (record { streams = streams_of s; property = property_of s })
  rest_values =
      keeps_accepted rest rest_rules
      ∙ ap (λ (t : Trailer). accepted (record { streams = t.streams; property = t.property })) trailer_is

module _ (s : List ℕ) {node : NodeValues} (e : verdict_of s ≡ accepted node) where
  note_left : note_length s + size_of (streams_of s) ≤ length s
  note_left =
      let n_is : node.streams ≡ streams_of s = ap (λ (v : NodeValues). v.streams) (accepted_values s e) in
      omega (arith, note_is s e, accepted_room s e)

  -- the file without its note has the same answer ..
  pub without_note_accepted : verdict_of (without_note s) ≡ accepted node
  without_note_accepted = rest_values s (accepted_keeps s e) (note_length s) note_left ∙ ap accepted (sym (accepted_values s e))

  -- .. and the same records
  pub without_note_record : (i : ℕ) → record_of (without_note s) i ≡ record_of s i
  without_note_record = record_is s (accepted_keeps s e) (note_length s) note_left

-- accepted files of equal record area and trailer decode alike whatever their notes
module _ (s t : List ℕ) {node other : NodeValues} (e : verdict_of s ≡ accepted node) (f : verdict_of t ≡ accepted other) (same : without_note s ≡ without_note t) where
  pub notes_same_answer : verdict_of s ≡ verdict_of t
  notes_same_answer =
      e ∙ sym (without_note_accepted s e) ∙ ap verdict_of same ∙ without_note_accepted t f ∙ sym f

  pub notes_same_record : (i : ℕ) → record_of s i ≡ record_of t i
  notes_same_record i =
      sym (without_note_record s e i) ∙ ap (λ (r : List ℕ). record_of r i) same ∙ without_note_record t f i

  pub notes_same_equation : (i : ℕ) → equation_at s i ≡ equation_at t i
  notes_same_equation i = ap decoded (notes_same_record i)

  pub notes_same_type : (i : ℕ) → type_at s i ≡ type_at t i
  unfolding type_among
  notes_same_type i = ap (λ (r : Record). type_of r.ty) (notes_same_record i)
