-- "Bytes before record 0 are a note; the note is handed back as a part of the caller's file, empty if 1 to 8 refuse it."
use Rattle.std.specs.Prelude.{ℕ, ◌-◌, List, length, drop, Err, Ok}
use Rattle.answers.specs.Answer.{Answer}
use Rattle.answers.specs.declared.NodeValues.{NodeValues}
use Rattle.node.specs.Layout.{size_of}
use Rattle.node.specs.Verdict.{verdict_of}

abbrev pub note_of : (size : ℕ) → Answer NodeValues → ℕ
note_of size (Ok node) = size - size_of node.streams
note_of size (Err r) = 0

-- how many bytes the note has
unfoldable pub note_length : List ℕ → ℕ
note_length s = note_of (length s) (verdict_of s)

-- the file without its note: the records and the trailer
abbrev pub without_note : List ℕ → List ℕ
without_note s = drop (note_length s) s
