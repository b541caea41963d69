-- The line of an answer: "verdict, depth and the trailer's line counts: `accepted depth 1 base 12 step 12`. A refusal
-- prints as `refused 19 line 4`; either is one line ended by 0x0A; places are `file`, `record N`, `constraint N`, `line N`,
-- `base`, `step`."
use Rattle.std.specs.Prelude.{◌≡◌, ℕ, ◌≤◌, List, ◌++◌, length, take, drop, Err, Ok}
use Rattle.answers.specs.declared.Place.{Place}
use Rattle.answers.specs.declared.Place.TheVariants.{File, Record, Constraint, Line, Base, Step}
use Rattle.answers.specs.Answer.{Answer}
use Rattle.answers.specs.declared.CertificateValues.{CertificateValues}
use Rattle.report.specs.Decimal.{decimal}
use Rattle.report.specs.Words.{accepted_depth, base_count, step_count, refused_rule, at_file, at_record, at_constraint, at_line, at_base, at_step, newline}

-- a place, after a space
abbrev pub place_text : Place → List ℕ
place_text File = at_file
place_text (Record n) = at_record ++ decimal n
place_text (Constraint n) = at_constraint ++ decimal n
place_text (Line n) = at_line ++ decimal n
place_text Base = at_base
place_text Step = at_step

-- the depth and the line counts of an accepted certificate
abbrev pub accepted_text : (depth base step : ℕ) → List ℕ
accepted_text depth base step =
    (accepted_depth ++ decimal depth) ++ (base_count ++ decimal base) ++ (step_count ++ decimal step)

-- the number and the place of a refusal
abbrev pub refused_text : ℕ → Place → List ℕ
refused_text number place = (refused_rule ++ decimal number) ++ place_text place

-- either is one line, ended by 0x0A
unfoldable pub line_of : Answer CertificateValues → List ℕ
line_of (Ok v) = accepted_text v.depth v.base v.step ++ newline
line_of (Err r) = refused_text r.number r.place ++ newline

-- a buffer once text is its leading bytes: the text, then what the buffer held past that
abbrev pub overwritten : (text old : List ℕ) → List ℕ
overwritten text old = text ++ drop (length text) old

-- n counts leading bytes of a buffer. Of `write_line` and `write_call` that follows from the equations of their contracts; it is
-- stated, in both forms, so that the proof that Rattle makes of a caller's `&out[..n]` finds it.
abbrev pub Leading : ℕ → List ℕ → Type 0
Leading n buffer = (n ≤ length buffer) × (n ≡ length (take n buffer))
