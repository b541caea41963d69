-- The answer to a node file: the rows 1 to 8 of "Where each refusal is met", with 23 "after 6 and before 7", down the table, each over
-- all its records first, and the first failure given.
use Rattle.std.specs.Prelude.{ℕ, List, Bool, length, Option}
use Rattle.answers.specs.declared.Place.TheVariants.{File, Record as AtRecord}
use Rattle.answers.specs.Answer.{Answer, accepted}
use Rattle.answers.specs.declared.NodeValues.{NodeValues}
use Rattle.answers.specs.Checks.{check, check_all, lowest}
use Rattle.node.specs.declared.reading.RecordRule.{RecordRule}
use Rattle.node.specs.declared.reading.RecordRule.TheVariants.{Shape, Operands, Types}
use Rattle.node.specs.Equations.{equation_at}
use Rattle.node.specs.Layout.{trailer_of, streams_of, property_of, record_of, type_byte_of}
use Rattle.node.specs.Order.{is_among}
use Rattle.node.specs.Reads.{worked_out_order}
use Rattle.node.specs.Rules.{length_ok, fixed_ok, counts_ok, distance_ok, shape_ok, operands_ok, types_ok, property_ok}

-- record i of a file of n streams keeps the rule 5, 6 or 7
abbrev pub passes_of : List ℕ → (n : ℕ) → RecordRule → (i : ℕ) → Bool
passes_of s n Shape i = shape_ok (record_of s i)
passes_of s n Operands i = operands_ok n (record_of s i)
passes_of s n Types i = types_ok (type_byte_of s) (record_of s i)

-- 23: "no such order", at "the lowest record never placed"
abbrev pub never_placed : (order : List ℕ) → (n : ℕ) → Option ℕ
never_placed order n = lowest (is_among order) n

-- 7 and 8
unfoldable pub types_verdict : List ℕ → (n property : ℕ) → Answer NodeValues
types_verdict s n property =
    check_all (lowest (passes_of s n Types) n) 7 AtRecord
    (check (property_ok (type_byte_of s property)) 8 (AtRecord property)
    (accepted (record { streams = n; property = property })))

-- 5, 6, 23, 7 and 8
unfoldable pub records_verdict : List ℕ → (n property : ℕ) → Answer NodeValues
records_verdict s n property =
    check_all (lowest (passes_of s n Shape) n) 5 AtRecord
    (check_all (lowest (passes_of s n Operands) n) 6 AtRecord
    (check_all (never_placed (worked_out_order (equation_at s) n) n) 23 AtRecord
    (types_verdict s n property)))

unfoldable pub verdict_of : List ℕ → Answer NodeValues
verdict_of s =
    check (length_ok (length s)) 1 File
    (check (fixed_ok (trailer_of s)) 2 File
    (check (counts_ok (trailer_of s)) 3 File
    (check (distance_ok (trailer_of s) (length s)) 4 File
    (records_verdict s (streams_of s) (property_of s)))))
