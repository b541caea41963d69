-- What never changes while lines are checked, as the two files have it.
use Rattle.std.specs.Prelude.{ℕ, ◌+◌, ◌*◌, cond, List, ltb}
use Rattle.constraints.specs.Layout.{Line, trailer_of, start_of, line_at}
use Rattle.rules.specs.Lines.{Window, base_window, step_window}
use Rattle.rules.specs.Versions.{version2}
use Rattle.lines.specs.declared.frame.Frame.{Frame}

-- of a certificate, for a node of so many streams and its property stream
abbrev pub frame_of : (cert : List ℕ) → (streams property : ℕ) → Frame
frame_of cert streams property =
    let t = trailer_of cert in
    record {
      depth = t.depth;
      constraints = t.constraints;
      base = t.base;
      step = t.step;
      start = start_of cert;
      lines = start_of cert + 80 * t.constraints;
      streams = streams;
      property = property;
    }

-- the lines of a file whose line 0 stands at an offset
abbrev pub lines_at : List ℕ → (lines i : ℕ) → Line
lines_at s lines i = line_at s (lines + 80 * i)

-- the part that line i stands in
abbrev pub part_in : Frame → (i : ℕ) → Window
part_in f i =
    cond (ltb i f.base) (base_window version2 f.depth f.property f.base) (step_window f.depth f.property f.base f.step)
