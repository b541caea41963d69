-- The answer to a node and its table: "Errors: 71 ..; 72 ..; in this order, after 23, 7 and 8."
use Rattle.std.specs.Prelude.{ℕ, ◌*◌, List, Bool, true, eqb, ℤ, length}
use Rattle.answers.specs.declared.Place.TheVariants.{File, Record as AtRecord}
use Rattle.answers.specs.Answer.{Answer, accepted}
use Rattle.answers.specs.Checks.{check, check_all, every, lowest, and_then}
use Rattle.node.specs.declared.equation.StreamType.{StreamType}
use Rattle.node.specs.declared.equation.StreamType.TheVariants.{Bool as BoolType, Int as IntType}
use Rattle.node.specs.Equations.{type_at, equation_at}
use Rattle.node.specs.Layout.{streams_of}
use Rattle.node.specs.Verdict.{verdict_of}
use Rattle.ranges.specs.Results.{ends, all_inside}
use Rattle.ranges.specs.Table.{range_in, range_ok}

-- 71: "table length wrong"
abbrev pub length_ok : (file : List ℕ) → (table : List ℤ) → Bool
length_ok file table = eqb (length table) (2 * streams_of file)

-- 71: "ends reversed, too large or, for a bool, not 0", of stream i
abbrev pub ends_ok : (file : List ℕ) → (table : List ℤ) → (i : ℕ) → Bool
ends_ok file table i = range_ok (type_at file i) (range_in table i)

-- what is asked of an int stream, and not of a bool
abbrev pub of_int : StreamType → Bool → Bool
of_int BoolType ok = true
of_int IntType ok = ok

-- 72: "a range not inside", of record i
unfoldable pub results_ok : (file : List ℕ) → (table : List ℤ) → (i : ℕ) → Bool
results_ok file table i = of_int (type_at file i) (all_inside (range_in table i) (ends (equation_at file i) (range_in table)))

-- the checks of an accepted node's table: all of 71, then 72
unfoldable pub table_verdict : (file : List ℕ) → (table : List ℤ) → Answer (Unit {0})
table_verdict file table =
    check (length_ok file table) 71 File
    (check (every (ends_ok file table) (streams_of file)) 71 File
    (check_all (lowest (results_ok file table) (streams_of file)) 72 AtRecord
    (accepted tt)))

-- the whole answer: accepted where the node is listed
unfoldable pub listing_of : (file : List ℕ) → (table : List ℤ) → Answer (Unit {0})
listing_of file table = and_then (verdict_of file) (table_verdict file table)
