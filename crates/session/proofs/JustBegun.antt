-- An answered beginning sets a record at which a session stands, with no call answered.
-- Assumes nothing.
use mathlib.Core.Path.{◌≡◌, refl, ap}
use mathlib.Core.Bool.{true≢false}
use mathlib.Core.List.{List, []}
use Prim.Native.Nat.{ℕ, ◌≤◌}
use native.Mathlib.Omega.{arith}
use lib.ListN.{length}
use lib.Seq.{take-append_seam}
use Rattle.answers.specs.Answer.{accepted}
use Rattle.answers.specs.declared.NodeValues.{NodeValues}
use Rattle.node.specs.Layout.{streams_of}
use Rattle.node.specs.Note.{without_note}
use Rattle.node.specs.Verdict.{verdict_of}
use Rattle.node.proofs.Notes.{accepted_sizes, rest_size}
use Rattle.node.proofs.Outcomes.{accepted_values}
use Rattle.node.proofs.WithoutNote.{without_note_accepted}
use Rattle.session.specs.declared.Session.{Session}
use Rattle.session.specs.Records.{begun, begun_of, held_file}
use Rattle.session.specs.Events.{begun_run}
use Rattle.session.proofs.Answering.{holds_by}
use Rattle.session.proofs.Showing.{shows_none}
use Rattle.session.proofs.Standing.{Standing, RunStands}

module _ (file : List ℕ) {node : NodeValues} (e : verdict_of file ≡ accepted node) where
  pub begun_is : (before : Session) → begun_of file before ≡ begun file
  unfolding begun_of
  begun_is before = rw e

  pub begun_held : held_file (begun file) ≡ without_note file
  begun_held = take-append_seam (without_note file) _

  pub begun_short : length (without_note file) ≤ 1040
  begun_short =
      let n_is : node.streams ≡ streams_of file = ap (λ (v : NodeValues). v.streams) (accepted_values file e) in
      omega (arith, rest_size file e, (accepted_sizes file e).few)

  pub begun_stands : Standing file [] (begun file)
  begun_stands =
      record {
        node = holds_by (begun file) begun_short (rw begun_held (rw (without_note_accepted file e) refl)) refl refl;
        holds = begun_held;
        first = refl;
        last = λ u starts v solves past. absurd (true≢false past);
        shows = shows_none file e;
      }

  pub begun_runs : RunStands (begun_run file) (begun file)
  begun_runs = record { node = node; accepts = e; stands = begun_stands; trials = tt; held = refl }
