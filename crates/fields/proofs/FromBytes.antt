-- What std reads from bytes, the low one first, is the field of these bytes.
-- Assumes nothing.
use mathlib.Core.Path.{◌≡◌}
use mathlib.Core.List.{[], ◌∷◌}
use Prim.Native.Nat.{ℕ}
use native.Mathlib.Omega.{arith}
use mir.Syntax.{w16, w32, w64}
use Rattle.std.specs.Int.{from_le_bytes}
use Rattle.fields.specs.Fields.{u16_of, u32_of, u64_of}

pub u16_from_bytes : (a b : ℕ) → from_le_bytes w16 (a ∷ b ∷ []) ≡ u16_of a b
u16_from_bytes a b = omega arith

pub u32_from_bytes : (a b c d : ℕ) → from_le_bytes w32 (a ∷ b ∷ c ∷ d ∷ []) ≡ u32_of (u16_of a b) (u16_of c d)
u32_from_bytes a b c d = omega arith

pub u64_from_bytes : (a b c d e f g h : ℕ)
    → from_le_bytes w64 (a ∷ b ∷ c ∷ d ∷ e ∷ f ∷ g ∷ h ∷ []) ≡ u64_of (u32_of (u16_of a b) (u16_of c d)) (u32_of (u16_of e f) (u16_of g h))
u64_from_bytes a b c d e f g h = omega arith
