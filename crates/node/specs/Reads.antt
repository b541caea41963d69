-- What a decoded equation reads, and what every equation of an accepted file keeps. Crates above know a node by this alone.
use Rattle.std.specs.Prelude.{ℕ, ◌<◌, ◌≡◌, List, [], ◌∷◌, ◌++◌, Bool, true, false, cond, ℤ, length, get_or, ◌≤ℤ◌}
use Rattle.node.specs.declared.equation.StreamType.{StreamType}
use Rattle.node.specs.declared.equation.StreamType.TheVariants.{Bool as BoolType, Int as IntType}
use Rattle.node.specs.declared.equation.Equation.{Equation}
use Rattle.node.specs.declared.table.Wanted.{Wanted}
use Rattle.node.specs.declared.table.Wanted.TheVariants.{ABool, AnInt, Own}
use Rattle.node.specs.declared.table.Operand.{Operand}
use Rattle.node.specs.declared.table.Operand.TheVariants.{Unused, Now, Before}
use Rattle.node.specs.declared.table.Limit.{Limit}
use Rattle.node.specs.declared.table.Row.{Row}
use Rattle.node.specs.declared.layout.Record.{Record}
use Rattle.node.specs.Equations.{type_at, equation_at, fields_of, constant_of}
use Rattle.node.specs.Layout.{streams_of, property_of}
use Rattle.node.specs.Order.{order_by, place_in}
use Rattle.node.specs.Rules.{range_of}
use Rattle.node.specs.Table.{row_of}

-- an operand that an equation reads: its stream, the type that is wanted of it, and whether it is needed now
pub record Read : Type 0 where
  pub stream : ℕ
  pub wanted : Wanted
  pub now : Bool

-- an operand as a row has it
abbrev pub reading : Operand → ℕ → List Read
reading Unused x = []
reading (Now wanted) x = record { stream = x; wanted = wanted; now = true } ∷ []
reading (Before wanted) x = record { stream = x; wanted = wanted; now = false } ∷ []

abbrev pub row_reads : Row → Record → List Read
row_reads row r = reading row.a r.a ++ (reading row.b r.b ++ reading row.c r.c)

-- the row of an equation, by its operator
unfoldable pub row_for : Equation → Row
row_for e = row_of (fields_of e).op

unfoldable pub reads : Equation → List Read
reads e = row_reads (row_for e) (fields_of e)

-- the operands that are needed now: "All are needed now, except b of operator 13."
abbrev pub needed_in : List Read → List ℕ
needed_in [] = []
needed_in (r ∷ rs) = cond r.now (r.stream ∷ needed_in rs) (needed_in rs)

unfoldable pub needed_now : Equation → List ℕ
needed_now e = needed_in (reads e)

-- the worked-out order of n equations
abbrev pub worked_out_order : (equations : ℕ → Equation) → (n : ℕ) → List ℕ
worked_out_order equations n = order_by (λ i. needed_now (equations i)) n

-- the type of the equation's own stream; `Own`: either
abbrev pub yields : Equation → Wanted
yields e = (row_for e).own

-- the type that is wanted, where `own` is that of the equation's stream
abbrev pub wanted_type : (own : StreamType) → Wanted → StreamType
wanted_type own ABool = BoolType
wanted_type own AnInt = IntType
wanted_type own Own = own

abbrev pub All : {A : Type 0} → (A → Type 0) → List A → Type 0
All P [] = Unit {0}
All P (x ∷ xs) = P x × All P xs

-- an operand of stream i, of a node with n streams of these types
pub record ReadOk (n : ℕ) (types : ℕ → StreamType) (i : ℕ) (r : Read) : Type 0 where
  pub below : r.stream < n
  pub typed : types r.stream ≡ wanted_type (types i) r.wanted

-- an order of n equations has each of them once, and each after all that it needs now
pub record Ordered (n : ℕ) (equations : ℕ → Equation) (order : List ℕ) : Type 0 where
  pub size : length order ≡ n
  pub names : (k : ℕ) → k < n → get_or order k 0 < n
  pub once : (k : ℕ) → k < n → place_in order (get_or order k 0) ≡ k
  pub has : (i : ℕ) → i < n → place_in order i < n
  pub at_place_is : (i : ℕ) → i < n → get_or order (place_in order i) 0 ≡ i
  pub after : (i : ℕ) → i < n → All (λ r. r.now ≡ true → place_in order r.stream < place_in order i) (reads (equations i))

-- a constant that a row limits
abbrev pub InRange : Limit → StreamType → ℤ → Type 0
InRange limit ty k = ((range_of limit ty).0 ≤ℤ k) × (k ≤ℤ (range_of limit ty).1)

abbrev pub ConstantOk : StreamType → Equation → Type 0
ConstantOk own e = InRange (row_for e).k own (constant_of e)

-- n equations of these types, one a stream, each with its operands there, its types right and its constant in range; and an order of them
pub record WellFormed (n property : ℕ) (types : ℕ → StreamType) (equations : ℕ → Equation) : Type 0 where
  pub operands : (i : ℕ) → i < n → All (ReadOk n types i) (reads (equations i))
  pub ordered : Ordered n equations (worked_out_order equations n)
  pub own : (i : ℕ) → i < n → types i ≡ wanted_type (types i) (yields (equations i))
  pub constants : (i : ℕ) → i < n → ConstantOk (types i) (equations i)
  pub property_below : property < n
  pub property_bool : types property ≡ BoolType

-- the worked-out order of a file's records, each of which "defines stream i"
abbrev pub needs_of : List ℕ → (i : ℕ) → List ℕ
needs_of s i = needed_now (equation_at s i)

abbrev pub order_of : List ℕ → List ℕ
order_of s = worked_out_order (equation_at s) (streams_of s)

-- the node that a file describes
abbrev pub WellFormedFile : List ℕ → Type 0
WellFormedFile s = WellFormed (streams_of s) (property_of s) (type_at s) (equation_at s)
