-- Node files as they are written, from their records: "A node file that one of our tools writes has no note".
use Rattle.std.specs.Prelude.{ℕ, ◌<◌, ◌≤◌, ◌≡◌, true, length, get_or}
use mathlib.Core.List.{List, ◌∷◌, ◌++◌, foldr}
use Rattle.fields.specs.Written.{u16_bytes, u32_bytes, i32_bytes}
use Rattle.node.specs.declared.layout.Trailer.{Trailer}
use Rattle.node.specs.declared.layout.Record.{Record}
use Rattle.node.specs.Equations.{decoded}
use Rattle.node.specs.Layout.{size_of, empty_record}
use Rattle.node.specs.Order.{is_among}
use Rattle.node.specs.Reads.{worked_out_order}
use Rattle.node.specs.Rules.{shape_ok, operands_ok, types_ok, property_ok}

-- "operator byte, type byte (0 bool, 1 int), u16 operands a, b, c, i32 constant K, four zero bytes"
unfoldable pub record_bytes : Record → List ℕ
record_bytes r =
    r.op ∷ r.ty ∷ (u16_bytes r.a ++ (u16_bytes r.b ++ (u16_bytes r.c ++ (i32_bytes r.k ++ u32_bytes r.rest))))

unfoldable pub trailer_bytes : Trailer → List ℕ
trailer_bytes t =
    t.first ∷ t.second ∷ t.version ∷ t.zero ∷ (u16_bytes t.streams ++ (u16_bytes t.property ++ (u32_bytes t.distance ++ u32_bytes t.rest)))

-- "0x4C, 0x4E, version 1, 0; u16 stream count n (1 to 64); u16 property stream; u32 distance from the file's end back to record 0, which
-- is 16 + 16·n; four zero bytes"
abbrev pub trailer_for : (n property : ℕ) → Trailer
trailer_for n property =
    record { first = 0x4C; second = 0x4E; version = 1; zero = 0; streams = n; property = property; distance = size_of n; rest = 0 }

unfoldable pub node_file : (records : List Record) → (property : ℕ) → List ℕ
node_file records property =
    foldr (λ r rest. record_bytes r ++ rest) (trailer_bytes (trailer_for (length records) property)) records

-- record i of a list, the empty one past its end
abbrev pub record_in : List Record → ℕ → Record
record_in records i = get_or records i empty_record

-- records of which a written file is accepted: 3, 5 to 8 and 23, said of the list
pub record NodeRecords (records : List Record) (property : ℕ) : Type 0 where
  pub some : 1 ≤ length records
  pub few : length records ≤ 64
  pub property_below : property < length records
  pub shapes : (i : ℕ) → i < length records → shape_ok (record_in records i) ≡ true
  pub operands : (i : ℕ) → i < length records → operands_ok (length records) (record_in records i) ≡ true
  pub placed : (i : ℕ) → i < length records → is_among (worked_out_order (λ j. decoded (record_in records j)) (length records)) i ≡ true
  pub types : (i : ℕ) → i < length records → types_ok (λ j. (record_in records j).ty) (record_in records i) ≡ true
  pub property_bool : property_ok (record_in records property).ty ≡ true
