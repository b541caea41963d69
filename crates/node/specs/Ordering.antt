-- How the reader works the order out: what each record needs now, who needs a stream, and which records are placed.
use Rattle.std.specs.Prelude.{◌≡◌, ℕ, ◌<◌, ◌≤◌, ◌+◌, Bool, true, false, not, cond, ◌&&◌, List, ltb, get_or, min}
use Rattle.node.specs.declared.layout.Record.{Record}
use Rattle.node.specs.declared.ordering.Needs.{Needs}
use Rattle.node.specs.declared.table.Operand.{Operand}
use Rattle.node.specs.declared.table.Operand.TheVariants.{Unused, Now, Before}
use Rattle.node.specs.Layout.{record_of}
use Rattle.node.specs.Table.{row_of}

-- an operand that is a stream and, where it is needed now, lower than its record i
abbrev pub is_lower : Operand → (n i x : ℕ) → Bool
is_lower Unused n i x = true
is_lower (Now wanted) n i x = ltb x n && ltb x i
is_lower (Before wanted) n i x = ltb x n

unfoldable pub lower_ok : (n i : ℕ) → Record → Bool
lower_ok n i r =
    is_lower (row_of r.op).a n i r.a && is_lower (row_of r.op).b n i r.b && is_lower (row_of r.op).c n i r.c

-- what stands for an operand that is not needed now: no stream, and it counts as placed
abbrev pub no_stream : ℕ
no_stream = 64

abbrev pub needed_as : Operand → (x : ℕ) → ℕ
needed_as Unused x = no_stream
needed_as (Now wanted) x = min x no_stream
needed_as (Before wanted) x = no_stream

-- what a record needs now
unfoldable pub needs_in : Record → Needs
needs_in r =
    record { a = needed_as (row_of r.op).a r.a; b = needed_as (row_of r.op).b r.b; c = needed_as (row_of r.op).c r.c }

-- what record i of a list needs now
abbrev pub needs_at : List Needs → (i : ℕ) → Needs
needs_at needs i = get_or needs i (record { a = 0; b = 0; c = 0 })

-- a list of what each of the first k records of a file needs now
abbrev pub HoldNeeds : (file : List ℕ) → (k : ℕ) → (needs : List Needs) → Type 0
HoldNeeds file k needs = (i : ℕ) → i < k → needs_at needs i ≡ needs_in (record_of file i)

-- of each stream x, `readers` has a number that is at most j for every record j from k on, and below n, that needs x now
abbrev pub HoldReaders : (needs : List Needs) → (n k : ℕ) → (readers : List ℕ) → Type 0
HoldReaders needs n k readers =
    (j : ℕ) → k ≤ j → j < n
    → let record_needs = needs_at needs j in
    (get_or readers record_needs.a 0 ≤ j) × (get_or readers record_needs.b 0 ≤ j) × (get_or readers record_needs.c 0 ≤ j)

-- whether stream x is placed
abbrev pub is_placed : (placed : List Bool) → (x : ℕ) → Bool
is_placed placed x = get_or placed x false

-- a record that is not placed and whose needs are
unfoldable pub ready_by : (placed : List Bool) → (needs : List Needs) → (i : ℕ) → Bool
ready_by placed needs i =
    let record_needs = needs_at needs i in
    not (is_placed placed i) && is_placed placed record_needs.a && is_placed placed record_needs.b && is_placed placed record_needs.c

-- none of the first k records is ready
abbrev pub NoneReady : (placed : List Bool) → (needs : List Needs) → (k : ℕ) → Type 0
NoneReady placed needs k = (i : ℕ) → i < k → ready_by placed needs i ≡ false

-- where the search goes on once record i is placed
abbrev pub next_start : (i reader : ℕ) → ℕ
next_start i reader = cond (ltb reader i) reader (i + 1)
