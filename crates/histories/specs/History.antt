-- A history, for tools that look at a short pass as a whole: a count of instants, and all their inputs in turn.
use Rattle.std.specs.Prelude.{ℕ, zero, suc, ◌*◌, List, Bool, cond, eqb, ltb, ℤ, pos, length, take, drop, replicate, None, Option, Some}
use Rattle.answers.specs.Checks.{lowest}
use Rattle.node.specs.Inputs.{input_count}
use Rattle.node.specs.Layout.{streams_of}
use Rattle.node.specs.Reads.{order_of}
use Rattle.streams.specs.Evaluation.{instants}
use Rattle.streams.specs.Instant.{input_fits}
use Rattle.streams.specs.Nodes.{node_of}
use Rattle.streams.specs.Solutions.{Streams}
use Rattle.streams.specs.Typing.{Inputs}
use Rattle.streams.specs.Values.{values_in}

-- the inputs of instant t, where each has m of them
unfoldable pub inputs_at : (m : ℕ) → (inputs : List ℤ) → (t : ℕ) → List ℤ
inputs_at m inputs t = take m (drop (m * t) inputs)

-- 31: there are as many numbers as the instants have inputs
unfoldable pub count_ok : (count m : ℕ) → (inputs : List ℤ) → Bool
count_ok count m inputs = eqb (length inputs) (count * m)

-- 33: the lowest record whose input at instant t is a bool's and "not 0 or 1"
abbrev pub bad_at : (file : List ℕ) → (inputs : List ℤ) → (t : ℕ) → Option ℕ
bad_at file inputs t = lowest (input_fits file (inputs_at (input_count file) inputs t)) (streams_of file)

abbrev pub earlier : Option ℕ → Option ℕ → Option ℕ
earlier (Some i) later = Some i
earlier None later = later

-- .. "of the earliest instant" among the first k
unfoldable pub bad_input : (file : List ℕ) → (inputs : List ℤ) → (k : ℕ) → Option ℕ
bad_input file inputs zero = None
bad_input file inputs (suc k) = earlier (bad_input file inputs k) (bad_at file inputs k)

-- endless inputs that start with a history of `count` instants. What comes after is 0: no value of the history rests on it
abbrev pub endless : (m count : ℕ) → (inputs : List ℤ) → Inputs
endless m count inputs t = cond (ltb t count) (inputs_at m inputs t) (replicate m (pos 0))

-- the values of all streams over whole numbers, worked out on these
unfoldable pub history_values : (file : List ℕ) → (count : ℕ) → (inputs : List ℤ) → Streams
history_values file count inputs t = values_in (instants (node_of file) (order_of file) (endless (input_count file) count inputs) t)
