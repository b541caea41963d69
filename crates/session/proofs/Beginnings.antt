-- A beginning: an accepted file has few streams, and what the record then is.
-- Assumes nothing.
use mathlib.Core.Path.{◌≡◌, ap}
use mathlib.Core.List.{List}
use Prim.Native.Nat.{ℕ, ◌-◌, ◌≤◌}
use native.Mathlib.Omega.{arith}
use lib.IntN.{pos}
use lib.ListN.{length, drop, replicate}
use Rattle.answers.specs.declared.Place.{Place}
use Rattle.answers.specs.Answer.{accepted, refused}
use Rattle.answers.specs.declared.NodeValues.{NodeValues}
use Rattle.node.specs.Layout.{size_of}
use Rattle.node.specs.Verdict.{verdict_of}
use Rattle.node.proofs.Notes.{accepted_sizes, note_is, rest_size}
use Rattle.node.proofs.Outcomes.{accepted_values}
use Rattle.streams.specs.Instant.{filled}
use Rattle.session.specs.declared.Session.{Session}
use Rattle.session.specs.Records.{begun, begun_of}

module _ (file : List ℕ) where
  pub few_streams : {node : NodeValues} → verdict_of file ≡ accepted node → node.streams ≤ 64
  few_streams e =
      let n_is = ap (λ (v : NodeValues). v.streams) (accepted_values file e) in
      omega (arith, (accepted_sizes file e).few)

  pub begun_is : {node : NodeValues} → verdict_of file ≡ accepted node → (copy : List ℕ) → copy ≡ filled 1040 0 (drop (length file - size_of node.streams) file) → record { length = size_of node.streams; last = replicate 64 (pos 0); trial = replicate 64 (pos 0); file = copy; started = 0; held = 0; spare = replicate 6 0 } ≡ begun file
  begun_is e copy f = rw (f, ← note_is file e, rest_size file e)

  module _ (before : Session) where
    pub begins : {node : NodeValues} → verdict_of file ≡ accepted node → begun file ≡ begun_of file before
    unfolding begun_of
    begins e = rw e

    pub keeps : {number : ℕ} {place : Place} → verdict_of file ≡ refused number place → before ≡ begun_of file before
    unfolding begun_of
    keeps e = rw e
