-- Every equation of an accepted file is well formed: its operands are streams of the right type, and its constant is in range; and the
-- worked-out order has each once, after all that it needs now. The argument goes by the operator's row and not by the operator.
-- Assumes nothing.
use mathlib.Core.Path.{◌≡◌, ap}
use mathlib.Core.Bool.{true, ◌&&◌}
use mathlib.Core.List.{List}
use Prim.Native.Nat.{ℕ, ◌<◌}
use borrow.Author.Tests.{ltb-true, eqb-true}
use Rattle.answers.specs.Answer.{accepted}
use Rattle.answers.specs.declared.NodeValues.{NodeValues}
use Rattle.answers.proofs.Tests.{both_true}
use Rattle.node.specs.declared.layout.Record.{Record}
use Rattle.node.specs.declared.table.Operand.{Operand}
use Rattle.node.specs.declared.table.Operand.TheVariants.{Unused, Now, Before}
use Rattle.node.specs.declared.table.Row.{Row}
use Rattle.node.specs.declared.table.Wanted.{Wanted}
use Rattle.node.specs.declared.table.Wanted.TheVariants.{ABool, AnInt, Own}
use Rattle.node.specs.Equations.{type_of, type_among, type_at, equation_at, decoded, encoded}
use Rattle.node.specs.Layout.{streams_of, record_of, type_byte_of}
use Rattle.node.specs.Outcome.{NodeRules}
use Rattle.node.specs.Reads.{reading, row_reads, row_for, reads, wanted_type, All, ReadOk, InRange, WellFormedFile}
use Rattle.node.specs.Rules.{is_stream, has_type, typed, types_ok, property_ok}
use Rattle.node.specs.Table.{row_of}
use Rattle.node.specs.Verdict.{verdict_of}
use Rattle.node.proofs.Encoding.{shape, by_record}
use Rattle.node.proofs.FileRules.{sizes}
use Rattle.node.proofs.Needs.{by_operand, operand_streams, ordered}
use Rattle.node.proofs.Outcomes.{accepted_keeps}

-- a type byte that is the wanted one stands for the wanted type
typed_is : (wanted : Wanted) (own ty : ℕ) → has_type wanted own ty ≡ true → type_of ty ≡ wanted_type (type_of own) wanted
typed_is ABool own ty e = rw e
typed_is AnInt own ty e = rw (eqb-true ty 1 e)
typed_is Own own ty e = ap type_of (eqb-true ty own e)

module _ (n i : ℕ) (types : ℕ → ℕ) where
  operand_ok : (operand : Operand) (x : ℕ) → is_stream operand n x ≡ true → typed operand (types i) (types x) ≡ true → All (ReadOk n (λ j. type_of (types j)) i) (reading operand x)
  operand_ok Unused x p h = tt
  operand_ok (Now wanted) x p h = (record { below = ltb-true _ _ p; typed = typed_is wanted (types i) (types x) h }, tt)
  operand_ok (Before wanted) x p h = (record { below = ltb-true _ _ p; typed = typed_is wanted (types i) (types x) h }, tt)

module _ (s : List ℕ) (rules : NodeRules s) (i : ℕ) (l : i < streams_of s) where
  abbrev n : ℕ
  n = streams_of s

  abbrev r : Record
  r = record_of s i

  abbrev row : Row
  row = row_of r.op

  -- rule 7, operand by operand
  types : (has_type row.own r.ty r.ty ≡ true) × (typed row.a r.ty (type_byte_of s r.a) ≡ true) × (typed row.b r.ty (type_byte_of s r.b) ≡ true) × (typed row.c r.ty (type_byte_of s r.c) ≡ true)
  unfolding types_ok
  types =
      let own = has_type row.own r.ty r.ty in
      let a = typed row.a r.ty (type_byte_of s r.a) in
      let b = typed row.b r.ty (type_byte_of s r.b) in
      let c = typed row.c r.ty (type_byte_of s r.c) in
      let three = both_true (own && a && b) c (rules.types i l) in
      let two = both_true (own && a) b three.0 in
      let one = both_true own a two.0 in
      (one.0, one.1, two.1, three.1)

  -- rules 6 and 7
  operands_ok_is : All (ReadOk n (λ j. type_of (type_byte_of s j)) i) (row_reads row r)
  operands_ok_is =
      let streams = operand_streams n r (rules.operands i l) in
      let ok = operand_ok n i (type_byte_of s) in
      by_operand _ row r (ok row.a r.a streams.0 types.1) (ok row.b r.b streams.1 types.2) (ok row.c r.c streams.2 types.3)

  -- what the row says of the record, it says of the equation
  of_equation : (P : Record → Type 0) → P r → P (encoded (type_of r.ty) (decoded r))
  of_equation P = by_record P r (rules.shapes i l)

pub well_formed : (s : List ℕ) → NodeRules s → WellFormedFile s
unfolding type_among property_ok reads row_for
well_formed s rules =
    record {
      operands = λ i l. of_equation s rules i l (λ x. All (ReadOk (streams_of s) (type_at s) i) (row_reads (row_of x.op) x)) (operands_ok_is s rules i l);
      ordered = ordered (equation_at s) (streams_of s) rules.placed;
      own = λ i l. of_equation s rules i l (λ x. type_at s i ≡ wanted_type (type_at s i) (row_of x.op).own) (typed_is (row s rules i l).own (type_byte_of s i) (type_byte_of s i) (types s rules i l).0);
      constants = λ i l. of_equation s rules i l (λ x. InRange (row_of x.op).k (type_at s i) x.k) (shape (record_of s i) (rules.shapes i l)).constant;
      property_below = (sizes s rules.file).property;
      property_bool = rw rules.property;
    }

pub accepted_well_formed : (s : List ℕ) {node : NodeValues} → verdict_of s ≡ accepted node → WellFormedFile s
accepted_well_formed s e = well_formed s (accepted_keeps s e)
