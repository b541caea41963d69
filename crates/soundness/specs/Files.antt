-- Certificates put together from their fields, for worked cases.
use Rattle.std.specs.Prelude.{ℕ, ◌+◌, ◌-◌, ◌*◌, ℤ, pos, negsuc, length, replicate}
use mathlib.Core.List.{List, [], ◌∷◌, ◌++◌, foldr}
use Rattle.fields.specs.Written.{u16_bytes, u32_bytes}
use Rattle.node.specs.declared.layout.Record.{Record}
use Rattle.rules.specs.Versions.{Version}

-- a record by its fields, the last four bytes zero
abbrev pub rec : (op ty a b c : ℕ) → (k : ℤ) → Record
rec op ty a b c k = record { op = op; ty = ty; a = a; b = b; c = c; k = k; rest = 0 }

-- the rest of so many bytes is zero
abbrev pub padded : (n : ℕ) → List ℕ → List ℕ
padded n l = l ++ replicate (n - length l) 0

-- a signed number within ±200 of so many bytes
abbrev pub small : (bytes : ℕ) → ℤ → List ℕ
small bytes (pos n) = padded bytes (n ∷ [])
small bytes (negsuc n) = (255 - n) ∷ replicate (bytes - 1) 255

-- "u16 stream, u8 offset (0 to k), zero byte, i32 coefficient"
abbrev pub term : (stream offset : ℕ) → (coefficient : ℤ) → List ℕ
term stream offset coefficient = u16_bytes stream ++ (offset ∷ 0 ∷ []) ++ small 4 coefficient

-- "term count (0 to 8), seven zero bytes, i64 bound (within ±100,000,000,000), eight terms": the used ones
unfoldable pub at_most : (terms : List (List ℕ)) → (bound : ℤ) → List ℕ
at_most terms bound = padded 80 ((length terms ∷ replicate 7 0) ++ small 8 bound ++ foldr ◌++◌ [] terms)

-- "kind byte, literal count byte (0 to 12), u16 p, q, r, twelve u16 literals, twelve u32 multipliers": the listed ones
unfoldable pub line : (kind p q r : ℕ) → (literals multipliers : List ℕ) → List ℕ
line kind p q r literals multipliers =
    (kind ∷ length literals ∷ [])
    ++ (u16_bytes p ++ u16_bytes q ++ u16_bytes r)
    ++ padded 24 (foldr (λ l rest. u16_bytes l ++ rest) [] literals)
    ++ padded 48 (foldr (λ m rest. u32_bytes m ++ rest) [] multipliers)

-- of a version: "0x4B, 0x43, version 1, depth k (1 to 8); u16 counts of constraints (0 to 256), base lines, step lines; two zero bytes; u32 distance
-- back to the first constraint, or where there is none to the first line, 16 + 80·(sum of the counts)"
unfoldable pub certificate_file : Version → (k : ℕ) → (constraints base step : List (List ℕ)) → List ℕ
certificate_file version k constraints base step =
    foldr ◌++◌
    ((0x4B ∷ 0x43 ∷ version.byte ∷ k ∷ [])
    ++ (u16_bytes (length constraints) ++ u16_bytes (length base) ++ u16_bytes (length step))
    ++ replicate 2 0
    ++ u32_bytes (16 + 80 * (length constraints + length base + length step)))
    (constraints ++ base ++ step)
