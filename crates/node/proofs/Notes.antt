-- The note of a file: it is no longer than the file, and with the records and the trailer it is the file.
-- Assumes nothing.
use mathlib.Core.Path.{◌≡◌, sym, ◌∙◌, ap}
use mathlib.Core.List.{List, ◌++◌}
use Prim.Native.Nat.{ℕ, ◌-◌, ◌≤◌, zero-le}
use native.Mathlib.Omega.{arith}
use lib.ListN.{length, take, take-append-drop, length-drop}
use Rattle.answers.specs.Answer.{Answer, accepted}
use Rattle.answers.specs.declared.NodeValues.{NodeValues}
use Rattle.node.specs.Layout.{size_of, records_of}
use Rattle.node.specs.Note.{note_length, note_of, without_note}
use Rattle.node.specs.Verdict.{verdict_of}
use Rattle.node.proofs.FileRules.{Sizes, sizes}
use Rattle.node.proofs.Outcomes.{accepted_keeps, accepted_values}
use Rattle.std.specs.Prelude.{Err, Ok}

module _ (s : List ℕ) where
  pub accepted_sizes : {node : NodeValues} → verdict_of s ≡ accepted node → Sizes s
  accepted_sizes e = sizes s (accepted_keeps s e).file

  pub accepted_room : {node : NodeValues} → verdict_of s ≡ accepted node → size_of node.streams ≤ length s
  accepted_room e = rw (ap (λ (node : NodeValues). node.streams) (accepted_values s e)) (accepted_sizes e).room

  -- the streams of an accepted file are all its records
  pub accepted_count : {node : NodeValues} → verdict_of s ≡ accepted node → node.streams ≡ records_of s
  accepted_count e = ap (λ (node : NodeValues). node.streams) (accepted_values s e) ∙ sym (accepted_sizes e).records

  pub note_fits : note_length s ≤ length s
  unfolding note_length
  note_fits = go (verdict_of s)
    where
      go : (a : Answer NodeValues) → note_of (length s) a ≤ length s
      go (Ok node) = omega arith
      go (Err r) = zero-le

  -- the note and the record area together are the file
  pub note_and_rest : take (note_length s) s ++ without_note s ≡ s
  note_and_rest = take-append-drop (note_length s) s

  pub note_is : {node : NodeValues} → verdict_of s ≡ accepted node → note_length s ≡ length s - size_of node.streams
  unfolding note_length
  note_is e = ap (note_of (length s)) e

  pub rest_size : {node : NodeValues} → verdict_of s ≡ accepted node → length (without_note s) ≡ size_of node.streams
  rest_size e = length-drop (note_length s) s ∙ omega (arith, note_is e, accepted_room e)
