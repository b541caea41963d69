-- The versions of certificate files: what 01 has, and what S-4 changed. All rules but these are the same for both.
use Rattle.std.specs.Prelude.{ℕ, ◌+◌, Bool, true, false}

pub record Version : Type 0 where
  -- the trailer's version byte
  pub byte : ℕ
  -- how many offsets, from 0 on, the base covers at depth k
  pub covered : (k : ℕ) → ℕ
  -- the step's window begins after instant 0
  pub after : Bool

-- version 1, the archive's: "base: below k", "not-prop at offsets 0 to k − 1", and the step's window begins at any instant
abbrev pub version1 : Version
version1 = record { byte = 1; covered = λ k. k; after = false }

-- "Certificate version becomes 2: the base covers instants 0 to k, its property line too", and the step is written "for a window that
-- never starts at instant 0"
abbrev pub version2 : Version
version2 = record { byte = 2; covered = λ k. k + 1; after = true }
