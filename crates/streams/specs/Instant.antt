-- One instant of a file's node: its inputs against their types, and its values, worked out in an array of 64.
use Rattle.std.specs.Prelude.{◌≡◌, ℕ, ◌-◌, ◌<◌, List, ◌++◌, Bool, not, ◌||◌, ℤ, length, get_or, replicate, None, Option, Some}
use Rattle.answers.specs.Checks.{lowest}
use Rattle.integers.specs.Range.{inside}
use Rattle.node.specs.Equations.{type_at}
use Rattle.node.specs.Inputs.{is_input}
use Rattle.node.specs.Reads.{order_of}
use Rattle.streams.specs.Evaluation.{instant}
use Rattle.streams.specs.Nodes.{node_of}
use Rattle.streams.specs.Typing.{fits_test, given}
use Rattle.streams.specs.Values.{values_in}

-- 33: "bool input not 0 or 1", of record i
unfoldable pub input_fits : (file : List ℕ) → (inputs : List ℤ) → (i : ℕ) → Bool
input_fits file inputs i = not (is_input file i) || fits_test (type_at file i) (given (node_of file) inputs i)

-- "All n streams are worked out, untaken branches too", over whole numbers
unfoldable pub instant_of : (file : List ℕ) → (inputs : List ℤ) → (first : Bool) → (past : List ℤ) → List ℤ
instant_of file inputs first past = instant (node_of file) (order_of file) inputs first past

-- 34: "value outside −2^63 to 2^63 − 1", of stream i
abbrev pub value_inside : (values : List ℤ) → (i : ℕ) → Bool
value_inside values i = inside (values_in values i)

-- "34 names the first stream in the worked-out order": of the first k of an order, the first that fails a test
abbrev pub at_place : (order : List ℕ) → Option ℕ → Option ℕ
at_place order (Some k) = Some (get_or order k 0)
at_place order None = None

unfoldable pub first_of : (order : List ℕ) → (ok : ℕ → Bool) → (k : ℕ) → Option ℕ
first_of order ok k = at_place order (lowest (λ j. ok (get_or order j 0)) k)

-- .. and of all of it
abbrev pub first_along : (order : List ℕ) → (ok : ℕ → Bool) → Option ℕ
first_along order ok = first_of order ok (length order)

-- the input of each of the first k streams, one after another
abbrev pub HoldInputs : (file : List ℕ) → (inputs : List ℤ) → (k : ℕ) → (spread : List ℤ) → Type 0
HoldInputs file inputs k spread = (i : ℕ) → i < k → values_in spread i ≡ given (node_of file) inputs i

-- a list with as many of z after it as fill n places
abbrev pub filled : {A : Type 0} → (n : ℕ) → (z : A) → List A → List A
filled n z l = l ++ replicate (n - length l) z
