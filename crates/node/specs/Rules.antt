-- The conditions 1 to 8 of "Where each refusal is met", each as the test that a file passes. Condition 23 is in Verdict.antt.
use Rattle.std.specs.Prelude.{ℕ, Bool, true, not, ◌&&◌, ◌||◌, leb, ltb, eqb, ℤ, pos, neg_ℤ}
use Rattle.std.specs.Int.Signed.{le_z}
use Rattle.node.specs.declared.layout.Trailer.{Trailer}
use Rattle.node.specs.declared.layout.Record.{Record}
use Rattle.node.specs.declared.table.Wanted.{Wanted}
use Rattle.node.specs.declared.table.Wanted.TheVariants.{ABool, AnInt, Own}
use Rattle.node.specs.declared.table.Operand.{Operand}
use Rattle.node.specs.declared.table.Operand.TheVariants.{Unused, Now, Before}
use Rattle.node.specs.declared.table.Limit.{Limit}
use Rattle.node.specs.declared.table.Limit.TheVariants.{Zero, Value, Factor}
use Rattle.node.specs.declared.table.Row.{Row}
use Rattle.node.specs.declared.equation.StreamType.{StreamType}
use Rattle.node.specs.declared.equation.StreamType.TheVariants.{Bool as BoolType, Int as IntType}
use Rattle.node.specs.Equations.{type_of}
use Rattle.node.specs.Layout.{size_of}
use Rattle.node.specs.Table.{operators, row_of, reads_it}

-- 1: length. "From 16 to 65,535 bytes."
unfoldable pub length_ok : (size : ℕ) → Bool
length_ok size = leb 16 size && leb size 65535

-- 2: trailer's fixed bytes. "0x4C, 0x4E, version 1, 0; ..; four zero bytes"
unfoldable pub fixed_ok : Trailer → Bool
fixed_ok t = eqb t.first 0x4C && eqb t.second 0x4E && eqb t.version 1 && eqb t.zero 0 && eqb t.rest 0

-- 3: n, or property not below n. "u16 stream count n (1 to 64)"
unfoldable pub counts_ok : Trailer → Bool
counts_ok t = leb 1 t.streams && leb t.streams 64 && ltb t.property t.streams

-- 4: distance wrong or past the start. "u32 distance from the file's end back to record 0, which is 16 + 16·n"
unfoldable pub distance_ok : Trailer → (size : ℕ) → Bool
distance_ok t size = eqb t.distance (size_of t.streams) && leb t.distance size

abbrev pub within : (low k high : ℤ) → Bool
within low k high = le_z low k && le_z k high

-- "|K| is at most 1,000,000,000"
abbrev pub constant_limit : ℤ
constant_limit = pos 1000000000

-- "K against its rule": the least and the greatest that it may be
abbrev pub range_of : Limit → StreamType → ℤ × ℤ
range_of Zero ty = (pos 0, pos 0)
range_of Value BoolType = (pos 0, pos 1)
range_of Value IntType = (neg_ℤ constant_limit, constant_limit)
range_of Factor ty = (neg_ℤ constant_limit, constant_limit)

abbrev pub constant_ok : Limit → StreamType → (k : ℤ) → Bool
constant_ok limit ty k = within (range_of limit ty).0 k (range_of limit ty).1

-- "Unused fields are zero": an operand that the row does not read, and the last four bytes
unfoldable pub unused_ok : Row → Record → Bool
unused_ok row r =
    (reads_it row.a || eqb r.a 0)
    && (reads_it row.b || eqb r.b 0)
    && (reads_it row.c || eqb r.c 0)
    && eqb r.rest 0

-- 5: operator over 15, type byte over 1, K against its rule, unused field not 0
unfoldable pub shape_ok : Record → Bool
shape_ok r =
    ltb r.op operators
    && leb r.ty 1
    && constant_ok (row_of r.op).k (type_of r.ty) r.k
    && unused_ok (row_of r.op) r

-- an operand that is read is a stream
abbrev pub is_stream : Operand → (n x : ℕ) → Bool
is_stream operand n x = not (reads_it operand) || ltb x n

-- 6: operand not below n
unfoldable pub operands_ok : (n : ℕ) → Record → Bool
operands_ok n r =
    is_stream (row_of r.op).a n r.a && is_stream (row_of r.op).b n r.b && is_stream (row_of r.op).c n r.c

-- a type byte is the one that is wanted, where `own` is the record's: 0 bool, 1 int
abbrev pub has_type : Wanted → (own ty : ℕ) → Bool
has_type ABool own ty = eqb ty 0
has_type AnInt own ty = eqb ty 1
has_type Own own ty = eqb ty own

-- an operand that is read is of the type that is wanted
abbrev pub typed : Operand → (own ty : ℕ) → Bool
typed Unused own ty = true
typed (Now wanted) own ty = has_type wanted own ty
typed (Before wanted) own ty = has_type wanted own ty

-- 7: type byte or operand type not the operator's; `types` gives each record's type byte
unfoldable pub types_ok : (types : ℕ → ℕ) → Record → Bool
types_ok types r =
    has_type (row_of r.op).own r.ty r.ty
    && typed (row_of r.op).a r.ty (types r.a)
    && typed (row_of r.op).b r.ty (types r.b)
    && typed (row_of r.op).c r.ty (types r.c)

-- 8: property not bool, by its type byte
unfoldable pub property_ok : (ty : ℕ) → Bool
property_ok ty = eqb ty 0
