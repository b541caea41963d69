-- What the contract of `put` cites.
use Rattle.std.specs.Prelude.{◌≡◌, List, ℕ, min, length}
use Rattle.std.proofs.Math.Seq.{paste}

-- a buffer, before and after n bytes were put at its start: as many as it holds
pub record Put (bytes before after : List ℕ) (n : ℕ) : Type 0 where
  pub count : n ≡ min (length bytes) (length before)
  pub put : after ≡ paste before 0 bytes n
