-- `run_passes::events::show_call` meets its contract. The two counts are at most 65, which is what the arrays hold.
use mathlib.Core.Path.{sym}
use lib.Seq.{length-take-le}
use Rattle.numbers.proofs.Rows.{numbers_length}
use Rattle.run_passes.proofs.PassEvents.{count_most, inputs_counted, sevens_taken, shown_of}
use Rattle.run_passes.proofs.events.show_call.Goals as goal

pub slice_bounds-inputs-end : goal.slice_bounds-inputs-end
slice_bounds-inputs-end c = rw (c.numbers-inputs.ensures, numbers_length, c.input_count-count.ensures) (count_most _ 2)

pub slice_bounds-made-end : goal.slice_bounds-made-end
slice_bounds-made-end c = sym (length-take-le _ _ (rw (c.numbers-inputs.ensures, numbers_length, c.input_count-count.ensures) (count_most _ 2)))

pub slice_bounds-slice-end : goal.slice_bounds-slice-end
slice_bounds-slice-end c = rw c.slice_length-room.ensures (count_most _ 4)

pub slice_bounds-made-end-2 : goal.slice_bounds-made-end-2
slice_bounds-made-end-2 c = sym (length-take-le _ _ (rw c.slice_length-room.ensures (count_most _ 4)))

pub returns : goal.returns
returns c =
    let line = c.write_call-length.ensures in
    let a = c.args in record {
      shown_of = shown_of a.event.now _
          (inputs_counted _ _ _ c.numbers-inputs.ensures c.input_count-count.ensures)
          c.slice_length-room.ensures
          (sevens_taken _ 65 (rw c.slice_length-room.ensures (count_most _ 4)))
          c.made-t.auto.out
          line.value
          a.trying
          c.made-t.ensures;
      leading = line.leading;
    }
