-- Where the records of a file lie, and that they are those read by their count.
-- Assumes nothing.
use mathlib.Core.Path.{◌≡◌, refl}
use mathlib.Core.Bool.{Bool, true, false, cond, ◌&&◌}
use mathlib.Core.List.{List}
use Prim.Native.Nat.{ℕ, ◌<◌, ◌≤◌, ◌^◌, zero-le}
use native.Mathlib.Nat.{not-suc-le-zero, le_refl}
use native.Mathlib.Omega.{arith}
use borrow.Author.Tests.{leb-true}
use lib.Dec.{leb}
use lib.ListN.{length}
use Rattle.answers.proofs.Tests.{both_true}
use Rattle.node.specs.Equations.{type_at, equation_at, type_among, equation_among}
use Rattle.node.specs.Inputs.{is_input, is_input_among}
use Rattle.node.specs.Layout.{records_of, streams_of, size_of, record_of, type_byte_of, record_among, type_byte_among}

-- a file has no more records than its trailer says
pub records_le : (s : List ℕ) → records_of s ≤ streams_of s
unfolding records_of
records_le s = go (leb 16 (length s) && leb (size_of (streams_of s)) (length s))
  where
    go : (b : Bool) → cond b (streams_of s) 0 ≤ streams_of s
    go true = le_refl (streams_of s)
    go false = zero-le

-- a file that has a record has room for all n and the trailer
records_fit : (s : List ℕ) (i : ℕ) → i < records_of s → size_of (records_of s) ≤ length s
unfolding records_of
records_fit s i = go (leb 16 (length s) && leb (size_of (streams_of s)) (length s)) refl
  where
    go : (b : Bool) → (leb 16 (length s) && leb (size_of (streams_of s)) (length s)) ≡ b → i < cond b (streams_of s) 0 → size_of (cond b (streams_of s) 0) ≤ length s
    go true e l = leb-true _ _ (both_true (leb 16 (length s)) _ e).1
    go false e l = absurd (not-suc-le-zero l)

-- so there are far fewer records than a number can count
pub records_few : (s : List ℕ) (i : ℕ) → i < records_of s → length s < 2 ^ 64 → i < 2 ^ 60
records_few s i l h = omega (arith, records_fit s i l)

-- what is read by a count is the file's where the count is
module _ (s : List ℕ) (n : ℕ) (e : n ≡ records_of s) (i : ℕ) where
  pub record_among_is : record_among s n i ≡ record_of s i
  record_among_is = rw e

  pub type_byte_among_is : type_byte_among s n i ≡ type_byte_of s i
  type_byte_among_is = rw e

  pub type_among_is : type_among s n i ≡ type_at s i
  type_among_is = rw e

  pub equation_among_is : equation_among s n i ≡ equation_at s i
  equation_among_is = rw e

  pub is_input_among_is : is_input_among s n i ≡ is_input s i
  is_input_among_is = rw e
