-- The answer to a look-up: "Errors: 65, history over 16 instants, or stream or instant out of it, after 33 (of the earliest instant)."
use Rattle.std.specs.Prelude.{ℕ, ◌*◌, List, Bool, ◌&&◌, leb, ltb, ℤ}
use Rattle.answers.specs.declared.Place.TheVariants.{File, Record as AtRecord}
use Rattle.answers.specs.Answer.{Answer, accepted}
use Rattle.answers.specs.Checks.{check, check_all, and_then}
use Rattle.node.specs.Equations.{equation_at}
use Rattle.node.specs.Inputs.{input_count}
use Rattle.node.specs.Layout.{streams_of}
use Rattle.node.specs.Verdict.{verdict_of}
use Rattle.streams.specs.Solutions.{Streams}
use Rattle.histories.specs.History.{count_ok, bad_input, history_values}
use Rattle.look_up.specs.Visited.{inside_in}

-- 65: "history over 16 instants, or stream or instant out of it"
unfoldable pub is_in : (n count stream instant : ℕ) → Bool
is_in n count stream instant = leb count 16 && (ltb stream n && ltb instant count)

-- 34, "with the wanted record", or the value
unfoldable pub value_answer : (file : List ℕ) → Streams → (stream instant : ℕ) → Answer ℤ
value_answer file v stream instant =
    check (inside_in (equation_at file) v (16 * 64) instant stream) 34 (AtRecord stream)
    (accepted (v instant stream))

-- 31, 33, 65 and 34 in order, of an accepted node
unfoldable pub history_answer : (file : List ℕ) → (count : ℕ) → (inputs : List ℤ) → (stream instant : ℕ) → Answer ℤ
history_answer file count inputs stream instant =
    check (count_ok count (input_count file) inputs) 31 File
    (check_all (bad_input file inputs count) 33 AtRecord
    (check (is_in (streams_of file) count stream instant) 65 File
    (value_answer file (history_values file count inputs) stream instant)))

-- the whole answer
unfoldable pub look_up_of : (file : List ℕ) → (count : ℕ) → (inputs : List ℤ) → (stream instant : ℕ) → Answer ℤ
look_up_of file count inputs stream instant = and_then (verdict_of file) (history_answer file count inputs stream instant)
