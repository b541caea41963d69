-- What the code knows at a turn of working an instant out: the order that it is given names a stream, which has a place in the array,
-- and what it works out is the row's value.
-- Assumes nothing.
use mathlib.Core.Path.{◌≡◌, sym, ◌∙◌, ap}
use mathlib.Core.Bool.{Bool, true}
use mathlib.Core.List.{List}
use Prim.Native.Nat.{ℕ, ◌<◌, ◌≤◌}
use native.Mathlib.Omega.{arith}
use lib.IntN.{ℤ, pos}
use lib.ListN.{length, get_or}
use mir.Syntax.{w64}
use mir.Val.{SFits}
use mir.Facts.{to_z-of_z}
use Rattle.integers.specs.Range.{checked_of}
use Rattle.integers.proofs.Reading.{rd}
use Rattle.answers.specs.Answer.{is_accepted}
use Rattle.node.specs.declared.equation.Equation.{Equation}
use Rattle.node.specs.Equations.{equation_at, equation_among}
use Rattle.node.specs.Layout.{records_of, streams_of}
use Rattle.node.specs.Reads.{order_of, Ordered}
use Rattle.node.specs.Verdict.{verdict_of}
use Rattle.node.proofs.FileRules.{Sizes}
use Rattle.node.proofs.Notes.{accepted_sizes}
use Rattle.node.proofs.Outcomes.{is_accepted_is}
use Rattle.node.proofs.Records.{equation_among_is}
use Rattle.node.proofs.WellFormedness.{accepted_well_formed}
use Rattle.streams.specs.Instant.{HoldInputs}
use Rattle.streams.specs.Meaning.{meaning}
use Rattle.streams.specs.Values.{values_in}
use Rattle.streams.proofs.WorkingOut.{value_from}
use Rattle.std.specs.Prelude.{Option}

module _ (file order : List ℕ) (requires : (is_accepted (verdict_of file) ≡ true) × (order ≡ order_of file)) where
  sizes : Sizes file
  sizes = accepted_sizes _ (is_accepted_is _ requires.0)

  pub ordered : Ordered (streams_of file) (equation_at file) (order_of file)
  ordered = (accepted_well_formed _ (is_accepted_is _ requires.0)).ordered

  pub few : streams_of file ≤ 64
  few = sizes.few

  pub size_is : length order ≡ streams_of file
  size_is = ap length requires.1 ∙ ordered.size

  pub size_read : length order ≡ records_of file
  size_read = size_is ∙ sym sizes.records

  module _ (k : ℕ) (l : k < length order) where
    pub in_streams : k < streams_of file
    in_streams = omega (arith, l, size_is)

    pub stream_is : get_or order k 0 ≡ get_or (order_of file) k 0
    stream_is = ap (λ (o : List ℕ). get_or o k 0) requires.1

    pub in_array : get_or order k 0 < 64
    in_array = omega (arith, stream_is, ordered.names k in_streams, few)

    -- from the inputs that were spread over the streams
    pub row_worked : (inputs : List ℤ) (first : Bool) (past present spread : List ℤ) {made : Option ℤ} {e : Equation}
        → made ≡ checked_of (meaning e (rd w64 (get_or spread (get_or order k 0) (pos 0))) first (values_in past) (values_in present))
        → e ≡ equation_among file (length order) (get_or order k 0)
        → SFits w64 (get_or spread (get_or order k 0) (pos 0))
        → HoldInputs file inputs (length order) spread
        → made ≡ checked_of (value_from file inputs first past (get_or (order_of file) k 0) present)
    row_worked inputs first past present spread made_is e_is fits holds =
        let below : get_or order k 0 < length order = omega (arith, stream_is, ordered.names k in_streams, size_is) in
        rw (← stream_is)
        (rw (e_is, to_z-of_z fits, holds (get_or order k 0) below, equation_among_is file (length order) size_read (get_or order k 0)) at made_is)
