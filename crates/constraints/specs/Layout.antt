-- "Certificate file": note, constraints, base lines, step lines, trailer. The rules speak of the trailer, constraints and lines,
-- and of no byte.
use Rattle.std.specs.Prelude.{ℕ, ◌+◌, ◌-◌, ◌*◌, min, List, length}
use Rattle.fields.specs.Fields.{byte_at, u16_at, u32_at, i32_at, i64_at, zeros_at}
use Rattle.constraints.specs.declared.layout.Trailer.{Trailer}
use Rattle.constraints.specs.declared.layout.ConstraintHead.{ConstraintHead}
use Rattle.constraints.specs.declared.layout.Term.{Term}
use Rattle.constraints.specs.declared.layout.LineHead.{LineHead}

-- "Trailer, 16 bytes: 0x4B, 0x43, version 1, depth k (1 to 8); u16 counts of constraints (0 to 256), base lines, step lines; two
-- zero bytes; u32 distance back to the first constraint, or where there is none to the first line"
abbrev pub trailer_at : List ℕ → ℕ → Trailer
trailer_at s at =
    record {
      first = byte_at s at;
      second = byte_at s (at + 1);
      version = byte_at s (at + 2);
      depth = byte_at s (at + 3);
      constraints = u16_at s (at + 4);
      base = u16_at s (at + 6);
      step = u16_at s (at + 8);
      zeros = u16_at s (at + 10);
      distance = u32_at s (at + 12);
    }

abbrev pub trailer_of : List ℕ → Trailer
trailer_of s = trailer_at s (length s - 16)

-- "16 + 80·(sum of the counts)"
abbrev pub size_of : Trailer → ℕ
size_of t = 16 + 80 * (t.constraints + t.base + t.step)

-- where the first constraint stands, or where there is none the first line
abbrev pub start_of : List ℕ → ℕ
start_of s = length s - size_of (trailer_of s)

-- the blocks of 80 bytes: the constraints, then the lines
abbrev pub block_at : List ℕ → ℕ → ℕ
block_at s i = start_of s + 80 * i

-- "term count (0 to 8), seven zero bytes, i64 bound"
abbrev pub head_at : List ℕ → ℕ → ConstraintHead
head_at s at = record { count = byte_at s at; zeros = zeros_at s (at + 1) 7; bound = i64_at s (at + 8) }

-- "eight terms of u16 stream, u8 offset (0 to k), zero byte, i32 coefficient"
abbrev pub term_at : List ℕ → (at j : ℕ) → Term
term_at s at j =
    record {
      stream = u16_at s (at + 16 + 8 * j);
      offset = byte_at s (at + 16 + 8 * j + 2);
      zero = byte_at s (at + 16 + 8 * j + 3);
      coefficient = i32_at s (at + 16 + 8 * j + 4);
    }

-- a constraint: its head and its eight terms, by their number
pub record Constraint : Type 0 where
  pub head : ConstraintHead
  pub term : ℕ → Term

-- "term count (0 to 8)": the used terms, none past the eighth whatever the count
unfoldable pub used_in : Constraint → ℕ
used_in c = min c.head.count 8

abbrev pub constraint_at : List ℕ → ℕ → Constraint
constraint_at s at = record { head = head_at s at; term = term_at s at }

-- the constraints of a file whose first one stands at `start`
abbrev pub constraints_from : List ℕ → (start : ℕ) → ℕ → Constraint
constraints_from s start i = constraint_at s (start + 80 * i)

-- constraint i of the file
abbrev pub constraint_of : List ℕ → ℕ → Constraint
constraint_of s i = constraint_at s (block_at s i)

-- "Line, 80 bytes: kind byte, literal count byte (0 to 12), u16 p, q, r, twelve u16 literals, twelve u32 multipliers"
abbrev pub line_head_at : List ℕ → ℕ → LineHead
line_head_at s at =
    record { kind = byte_at s at; count = byte_at s (at + 1); p = u16_at s (at + 2); q = u16_at s (at + 4); r = u16_at s (at + 6) }

abbrev pub literal_at : List ℕ → (at j : ℕ) → ℕ
literal_at s at j = u16_at s (at + 8 + 2 * j)

abbrev pub multiplier_at : List ℕ → (at j : ℕ) → ℕ
multiplier_at s at j = u32_at s (at + 32 + 4 * j)

-- a line: its head, and its twelve literals and multipliers by their number
pub record Line : Type 0 where
  pub head : LineHead
  pub literal : ℕ → ℕ
  pub multiplier : ℕ → ℕ

-- "literal count byte (0 to 12)": the listed literals, none past the twelfth whatever the count
unfoldable pub listed_in : Line → ℕ
listed_in line = min line.head.count 12

-- the line at an offset whose head was read
abbrev pub line_with : List ℕ → (at : ℕ) → LineHead → Line
line_with s at h = record { head = h; literal = literal_at s at; multiplier = multiplier_at s at }

abbrev pub line_at : List ℕ → ℕ → Line
line_at s at = record { head = line_head_at s at; literal = literal_at s at; multiplier = multiplier_at s at }

-- "Lines are numbered from 0 through base, then on through step": line i of the file
abbrev pub line_of : List ℕ → ℕ → Line
line_of s i = line_at s (block_at s ((trailer_of s).constraints + i))
