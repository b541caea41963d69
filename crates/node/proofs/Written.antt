-- A written node file has the trailer and the records that were written and no note; it is accepted where its records keep the rules.
-- Assumes nothing.
use mathlib.Core.Path.{◌≡◌, refl, sym, ◌∙◌, ap, ap₂, fun_ext}
use mathlib.Core.Bool.{Bool, true, false, cond, ◌&&◌}
use mathlib.Core.List.{List, [], ◌∷◌, ◌++◌, foldr}
use Prim.Native.Nat.{ℕ, zero, suc, ◌+◌, ◌-◌, ◌*◌, ◌<◌, ◌≤◌, ◌^◌, suc-le-suc}
use native.Mathlib.Nat.{le_of_suc-le-suc, not-suc-le-zero}
use native.Mathlib.Omega.{arith}
use borrow.Author.Tests.{le-leb, lt-ltb, ltb-true, ltb-false, eq-eqb}
use lib.Dec.{ltb}
use lib.IntN.{ℤ, pos, negsuc, nat_abs}
use lib.ListN.{length, get_or-eq_default}
use lib.Signed.{mag}
use Rattle.answers.specs.Answer.{Answer, accepted}
use Rattle.answers.specs.declared.NodeValues.{NodeValues}
use Rattle.fields.proofs.Written.{u16_back, u32_back, i32_back}
use Rattle.node.specs.declared.layout.Trailer.{Trailer}
use Rattle.node.specs.declared.layout.Record.{Record}
use Rattle.node.specs.Equations.{type_of, decoded}
use Rattle.node.specs.Layout.{trailer_at, trailer_of, record_at, streams_of, size_of, records_of, empty_record, record_among, record_of, type_byte_of}
use Rattle.node.specs.Note.{note_of, note_length}
use Rattle.node.specs.Order.{is_among}
use Rattle.node.specs.Outcome.{NodeRules}
use Rattle.node.specs.Reads.{worked_out_order}
use Rattle.node.specs.Rules.{length_ok, fixed_ok, counts_ok, distance_ok, shape_ok, operands_ok, types_ok, property_ok}
use Rattle.node.specs.Table.{row_of}
use Rattle.node.specs.Verdict.{verdict_of}
use Rattle.node.specs.Written.{record_bytes, trailer_bytes, trailer_for, node_file, record_in, NodeRecords}
use Rattle.node.proofs.Encoding.{shape, limited}
use Rattle.node.proofs.Outcomes.{accepted_values, keeps_accepted}
use Rattle.node.proofs.WithoutNote.{trailer_on, record_on}
use Rattle.std.specs.Prelude.{Err, Ok}

trailer_back : (t : Trailer) → trailer_at (trailer_bytes t) 0 ≡ t
unfolding trailer_bytes
trailer_back t = simp (u16_back [] t.streams, u16_back [] t.property, u32_back [] t.distance, u32_back [] t.rest)

record_back : (r : Record) (rest : List ℕ) → mag r.k < 2 ^ 31 → record_at (record_bytes r ++ rest) 0 ≡ r
unfolding record_bytes
record_back r rest l = simp (u16_back [] r.a, u16_back [] r.b, u16_back [] r.c, i32_back [] r.k l, u32_back [] r.rest)

-- the bytes of records, and others after them
abbrev followed : List Record → List ℕ → List ℕ
followed records tail = foldr (λ r rest. record_bytes r ++ rest) tail records

followed_length : (rs : List Record) (tail : List ℕ) → length (followed rs tail) ≡ 16 * length rs + length tail
unfolding record_bytes
followed_length [] tail = omega arith
followed_length (r ∷ rs) tail = omega (arith, followed_length rs tail)

past_records : (rs : List Record) (tail : List ℕ) → trailer_at (followed rs tail) (16 * length rs) ≡ trailer_at tail 0
unfolding record_bytes
past_records [] tail = refl
past_records (r ∷ rs) tail =
    let next : 16 * suc (length rs) ≡ 16 + 16 * length rs = omega arith in
    ap (trailer_at (followed (r ∷ rs) tail)) next ∙ sym (trailer_on 16 (followed (r ∷ rs) tail) (16 * length rs)) ∙ past_records rs tail

-- each K is one that 32 signed bits hold
abbrev KsFit : List Record → Type 0
KsFit records = (i : ℕ) → i < length records → mag (record_in records i).k < 2 ^ 31

among_records : (rs : List Record) (tail : List ℕ) → KsFit rs → (i : ℕ) → i < length rs → record_at (followed rs tail) (16 * i) ≡ record_in rs i
unfolding record_bytes
among_records [] tail fit i l = absurd (not-suc-le-zero l)
among_records (r ∷ rs) tail fit zero l = record_back r (followed rs tail) (fit zero l)
among_records (r ∷ rs) tail fit (suc i) l =
    let next : 16 * suc i ≡ 16 + 16 * i = omega arith in
    ap (record_at (followed (r ∷ rs) tail)) next
    ∙ sym (record_on 16 (followed (r ∷ rs) tail) (16 * i))
    ∙ among_records rs tail (λ j m. fit (suc j) (suc-le-suc m)) i (le_of_suc-le-suc l)

module _ (records : List Record) (property : ℕ) where
  abbrev file : List ℕ
  file = node_file records property

  pub written_length : length file ≡ size_of (length records)
  unfolding node_file trailer_bytes
  written_length = followed_length records (trailer_bytes (trailer_for (length records) property)) ∙ omega arith

  pub written_trailer : trailer_of file ≡ trailer_for (length records) property
  unfolding node_file
  written_trailer =
      ap (trailer_at file) (omega (arith, written_length))
      ∙ past_records records (trailer_bytes (trailer_for (length records) property))
      ∙ trailer_back (trailer_for (length records) property)

  pub written_streams : streams_of file ≡ length records
  written_streams = ap (λ (t : Trailer). t.streams) written_trailer

  pub written_records : records_of file ≡ length records
  unfolding records_of
  written_records =
      let n = length records in
      rw (written_streams, written_length, le-leb 16 (size_of n) (omega arith), le-leb (size_of n) (size_of n) (omega arith))

  -- "no note"
  pub written_note : note_length file ≡ 0
  unfolding note_length
  written_note = go (verdict_of file) refl
    where
      go : (a : Answer NodeValues) → verdict_of file ≡ a → note_of (length file) a ≡ 0
      go (Ok node) e = omega (arith, written_length, written_streams, ap (λ (v : NodeValues). v.streams) (accepted_values file e))
      go (Err r) e = refl

  module _ (fit : KsFit records) where
    -- record i is the one that was written, the empty one past the last
    pub written_record : (i : ℕ) → record_of file i ≡ record_in records i
    unfolding record_among node_file
    written_record i =
        let n = length records in
        rw (written_records, le-leb (size_of n) (length file) (omega (arith, written_length))) (go (ltb i n) refl)
      where
        go : (b : Bool) → ltb i (length records) ≡ b → cond (b && true) (record_at file (length file - size_of (length records) + 16 * i)) empty_record ≡ record_in records i
        go true e =
            ap (record_at file) (omega (arith, written_length))
            ∙ among_records records (trailer_bytes (trailer_for (length records) property)) fit i (ltb-true i (length records) e)
        go false e = sym (get_or-eq_default records empty_record (ltb-false i (length records) e))

-- K within its limit is one that 32 signed bits hold
limited_fits : (k : ℤ) → nat_abs k ≤ 1000000000 → mag k < 2 ^ 31
limited_fits (pos n) l = omega arith
limited_fits (negsuc n) l = omega arith

module _ (records : List Record) (property : ℕ) (keep : NodeRecords records property) where
  abbrev written : List ℕ
  written = node_file records property

  record_is : (i : ℕ) → record_of written i ≡ record_in records i
  record_is =
      written_record records property
      (λ i l. let r = record_in records i in limited_fits r.k (limited (row_of r.op).k (type_of r.ty) r.k (shape r (keep.shapes i l)).constant))

  streams_is : streams_of written ≡ length records
  streams_is = written_streams records property

  rules : NodeRules written
  unfolding length_ok fixed_ok counts_ok distance_ok
  rules =
      let n = length records in
      let size = size_of n in
      record {
        file =
            record {
              size = rw (written_length records property, le-leb 16 size (omega arith), le-leb size 65535 (omega (arith, keep.few)));
              fixed = ap fixed_ok (written_trailer records property);
              counts = ap counts_ok (written_trailer records property) ∙ rw (le-leb 1 n keep.some, le-leb n 64 keep.few, lt-ltb property n keep.property_below);
              distance =
                  ap (λ (t : Trailer). distance_ok t (length written)) (written_trailer records property)
                  ∙ rw (written_length records property, eq-eqb size size refl, le-leb size size (omega arith));
            };
        shapes = λ i l. ap shape_ok (record_is i) ∙ keep.shapes i (rw streams_is at l);
        operands = λ i l. ap₂ operands_ok streams_is (record_is i) ∙ keep.operands i (rw streams_is at l);
        placed = λ i l.
            ap (λ (order : List ℕ). is_among order i) (ap₂ worked_out_order (fun_ext (λ j. ap decoded (record_is j))) streams_is) ∙ keep.placed i (rw streams_is at l);
        types = λ i l.
            ap₂ types_ok (fun_ext (λ j. ap (λ (r : Record). r.ty) (record_is j))) (record_is i) ∙ keep.types i (rw streams_is at l);
        property =
            ap (λ (t : Trailer). property_ok (type_byte_of written t.property)) (written_trailer records property)
            ∙ ap (λ (r : Record). property_ok r.ty) (record_is property)
            ∙ keep.property_bool;
      }

  pub written_accepted : verdict_of written ≡ accepted (record { streams = length records; property = property })
  written_accepted =
      keeps_accepted written rules
      ∙ ap (λ (t : Trailer). accepted (record { streams = t.streams; property = t.property })) (written_trailer records property)
