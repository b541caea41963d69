-- "Node file": where its fields stand. The rules speak of the trailer and the records, and of no byte.
use Rattle.std.specs.Prelude.{ℕ, ◌+◌, ◌-◌, ◌*◌, List, cond, ◌&&◌, leb, ltb, pos, length}
use Rattle.fields.specs.Fields.{byte_at, u16_at, u32_at, i32_at}
use Rattle.node.specs.declared.layout.Trailer.{Trailer}
use Rattle.node.specs.declared.layout.Record.{Record}

-- "The last 16 are the trailer: 0x4C, 0x4E, version 1, 0; u16 stream count n (1 to 64); u16 property stream; u32 distance
-- from the file's end back to record 0 ..; four zero bytes"
abbrev pub trailer_at : List ℕ → ℕ → Trailer
trailer_at s at =
    record {
      first = byte_at s at;
      second = byte_at s (at + 1);
      version = byte_at s (at + 2);
      zero = byte_at s (at + 3);
      streams = u16_at s (at + 4);
      property = u16_at s (at + 6);
      distance = u32_at s (at + 8);
      rest = u32_at s (at + 12);
    }

abbrev pub trailer_of : List ℕ → Trailer
trailer_of s = trailer_at s (length s - 16)

-- "operator byte, type byte (0 bool, 1 int), u16 operands a, b, c, i32 constant K, four zero bytes"
abbrev pub record_at : List ℕ → ℕ → Record
record_at s at =
    record {
      op = byte_at s at;
      ty = byte_at s (at + 1);
      a = u16_at s (at + 2);
      b = u16_at s (at + 4);
      c = u16_at s (at + 6);
      k = i32_at s (at + 8);
      rest = u32_at s (at + 12);
    }

-- the stream count n
abbrev pub streams_of : List ℕ → ℕ
streams_of s = (trailer_of s).streams

-- the property stream
abbrev pub property_of : List ℕ → ℕ
property_of s = (trailer_of s).property

-- "16 + 16·n": the records and the trailer
abbrev pub size_of : ℕ → ℕ
size_of n = 16 + 16 * n

-- how many whole records stand before the trailer: n, or none where they run past the file's start
unfoldable pub records_of : List ℕ → ℕ
records_of s = cond (leb 16 (length s) && leb (size_of (streams_of s)) (length s)) (streams_of s) 0

-- what stands for a record that the file does not have; the paper leaves it free
abbrev pub empty_record : Record
empty_record = record { op = 0; ty = 0; a = 0; b = 0; c = 0; k = pos 0; rest = 0 }

-- record i of n that stand before the trailer, where they fit the file
unfoldable pub record_among : List ℕ → (n i : ℕ) → Record
record_among s n i = cond (ltb i n && leb (size_of n) (length s)) (record_at s (length s - size_of n + 16 * i)) empty_record

-- its type byte
abbrev pub type_byte_among : List ℕ → (n i : ℕ) → ℕ
type_byte_among s n i = (record_among s n i).ty

-- "Record i defines stream i": of as many as the file has
abbrev pub record_of : List ℕ → ℕ → Record
record_of s i = record_among s (records_of s) i

abbrev pub type_byte_of : List ℕ → ℕ → ℕ
type_byte_of s i = type_byte_among s (records_of s) i
