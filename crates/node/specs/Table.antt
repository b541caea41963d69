-- "A record is one of fourteen operators, each with its own operands", and two more. "Which operands each operator reads stands in a
-- fixed table."
use Rattle.std.specs.Prelude.{ℕ, List, [], ◌∷◌, Bool, true, false, length, get_or}
use Rattle.node.specs.declared.table.Wanted.{Wanted}
use Rattle.node.specs.declared.table.Wanted.TheVariants.{ABool, AnInt, Own}
use Rattle.node.specs.declared.table.Operand.{Operand}
use Rattle.node.specs.declared.table.Operand.TheVariants.{Unused, Now, Before}
use Rattle.node.specs.declared.table.Limit.{Limit}
use Rattle.node.specs.declared.table.Limit.TheVariants.{Zero, Value, Factor}
use Rattle.node.specs.declared.table.Row.{Row}

abbrev row : (own : Wanted) (a b c : Operand) (k : Limit) → Row
row own a b c k = record { own = own; a = a; b = b; c = c; k = k }

-- Op, value s and types, as the paper prints them. "All are needed now, except b of operator 13."
abbrev pub rows : List Row
rows =
    row Own Unused Unused Unused Zero  -- 0: input; either
    ∷ row Own Unused Unused Unused Value  -- 1: K (bool: 0 or 1); either
    ∷ row ABool (Now ABool) Unused Unused Zero  -- 2: not a; bool
    ∷ row ABool (Now ABool) (Now ABool) Unused Zero  -- 3: a and b; bool
    ∷ row ABool (Now ABool) (Now ABool) Unused Zero  -- 4: a or b; bool
    ∷ row ABool (Now ABool) (Now ABool) Unused Zero  -- 5: a same as b; bool
    ∷ row AnInt (Now AnInt) (Now AnInt) Unused Zero  -- 6: a + b; int
    ∷ row AnInt (Now AnInt) (Now AnInt) Unused Zero  -- 7: a − b; int
    ∷ row AnInt (Now AnInt) Unused Unused Factor  -- 8: K·a; int
    ∷ row ABool (Now AnInt) (Now AnInt) Unused Zero  -- 9: a at most b; ints to bool
    ∷ row ABool (Now AnInt) (Now AnInt) Unused Zero  -- 10: a equal to b; ints to bool
    ∷ row Own (Now Own) (Now Own) (Now ABool) Zero  -- 11: if c then a else b; c bool; a, b as s
    ∷ row Own (Now Own) (Now Own) Unused Zero  -- 12: a at instant 0, later b; as s
    ∷ row Own (Now Own) (Before Own) Unused Zero  -- 13: a at instant 0, later b one instant before; as s
    ∷ row AnInt (Now AnInt) (Now AnInt) Unused Zero  -- 14: lesser of a and b; int
    ∷ row AnInt (Now AnInt) (Now AnInt) Unused Zero  -- 15: greater of a and b; int
    ∷ []

-- how many operators there are
abbrev pub operators : ℕ
operators = length rows

-- the row of an operator; past the table, where rule 5 refuses, that of an input
unfoldable pub row_of : ℕ → Row
row_of op = get_or rows op (row Own Unused Unused Unused Zero)

-- whether an operator reads the operand at all
abbrev pub reads_it : Operand → Bool
reads_it Unused = false
reads_it (Now wanted) = true
reads_it (Before wanted) = true
