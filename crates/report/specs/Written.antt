-- What a call that writes text into a lent buffer leaves behind.
use Rattle.std.specs.Prelude.{◌≡◌, ℕ, ◌+◌, List, length}
use Rattle.std.proofs.lemmas.List.Edits.{sets}

-- the text is stored byte after byte from an index on, the rest of the buffer is as it was, and `next` is the index past
-- the text
pub record Written (old : List ℕ) (at : ℕ) (text new : List ℕ) (next : ℕ) : Type 0 where
  pub past : next ≡ at + length text
  pub bytes : new ≡ sets old at text
