-- The signed number is the machine's reading of the unsigned one, or is read itself within the bytes; past them it is 0.
-- Assumes nothing.
use mathlib.Core.Path.{◌≡◌, refl}
use mathlib.Core.Bool.{Bool, true, false}
use mathlib.Core.List.{List}
use Prim.Native.Nat.{ℕ, ◌*◌, ◌/◌, ◌<◌, ◌≤◌, ◌^◌}
use borrow.Author.Tests.{lt-ltb, le-ltb}
use lib.Dec.{ltb}
use lib.IntN.{ℤ, pos}
use lib.ListN.{length}
use mir.Syntax.{w64}
use mir.Val.{to_z}
use mathlib.Core.Bool.{cond}
use Rattle.fields.specs.Fields.{u64_at, i64_at}
use Rattle.fields.proofs.TwosComplement.{i64_word}
use Rattle.numbers.specs.Numbers.{number_at, unsigned_at}

pub number_is : (bytes : List ℕ) (i : ℕ) → unsigned_at bytes i < 2 ^ 64 → to_z w64 (unsigned_at bytes i) ≡ number_at bytes i
unfolding number_at unsigned_at
number_is bytes i = go (ltb i (length bytes / 8))
  where
    go : (t : Bool) → cond t (u64_at bytes (8 * i)) 0 < 2 ^ 64 → to_z w64 (cond t (u64_at bytes (8 * i)) 0) ≡ cond t (i64_at bytes (8 * i)) (pos 0)
    go true l = i64_word _ l
    go false l = refl

pub number_within : (bytes : List ℕ) (i : ℕ) {r : ℤ} → i < length bytes / 8 → r ≡ i64_at bytes (8 * i) → r ≡ number_at bytes i
unfolding number_at
number_within bytes i l e = rw (lt-ltb _ _ l) e

pub number_past : (bytes : List ℕ) (i : ℕ) → length bytes / 8 ≤ i → pos 0 ≡ number_at bytes i
unfolding number_at
number_past bytes i l = rw (le-ltb _ _ l)

pub ruleset numbers = (number_is, number_within, number_past)
