-- Where each operand needed now is lower than its record: rule 6 holds, and the worked-out order is that of the records.
-- Assumes nothing.
use mathlib.Core.Path.{◌≡◌, refl, sym, ◌∙◌, ap}
use mathlib.Core.Bool.{true, ◌&&◌, false≢true}
use mathlib.Core.List.{List}
use Prim.Native.Nat.{ℕ, ◌<◌, ◌≤◌}
use native.Mathlib.Omega.{arith}
use borrow.Author.Tests.{ltb-true}
use lib.Dec.{ltb}
use lib.ListN.{length, get_or, take}
use lib.Seq.{ext_get_or, get_or-take, length-take-le}
use Rattle.answers.specs.Checks.{every, lowest}
use Rattle.answers.proofs.Every.{every_all}
use Rattle.answers.proofs.Lowest.{none, all}
use Rattle.answers.proofs.Tests.{both_true}
use Rattle.node.specs.declared.layout.Record.{Record}
use Rattle.node.specs.declared.reading.RecordRule.TheVariants.{Shape, Operands}
use Rattle.node.specs.declared.table.Operand.{Operand}
use Rattle.node.specs.declared.table.Operand.TheVariants.{Unused, Now, Before}
use Rattle.node.specs.declared.table.Row.{Row}
use Rattle.node.specs.Equations.{equation_at}
use Rattle.node.specs.Layout.{record_of}
use Rattle.node.specs.Order.{is_among, up_to}
use Rattle.node.specs.Ordering.{is_lower, lower_ok}
use Rattle.node.specs.Reads.{reading, row_reads, All, needs_of, worked_out_order}
use Rattle.node.specs.Rules.{is_stream, operands_ok}
use Rattle.node.specs.Table.{row_of}
use Rattle.node.specs.Verdict.{passes_of, never_placed}
use Rattle.node.proofs.Needs.{by_operand, OfNeeded, needed_of, needed_is}
use Rattle.node.proofs.RecordOrder.{up_to_length, up_to_at, up_to_has, record_order}
use Rattle.std.specs.Prelude.{None}

stream_of_lower : (operand : Operand) (n i x : ℕ) → is_lower operand n i x ≡ true → is_stream operand n x ≡ true
stream_of_lower Unused n i x e = refl
stream_of_lower (Now wanted) n i x e = (both_true (ltb x n) (ltb x i) e).0
stream_of_lower (Before wanted) n i x e = e

reads_lower : (operand : Operand) (n i x : ℕ) → is_lower operand n i x ≡ true → All (OfNeeded (λ y. y < i)) (reading operand x)
reads_lower Unused n i x e = tt
reads_lower (Now wanted) n i x e = (λ now. ltb-true x i (both_true (ltb x n) (ltb x i) e).1, tt)
reads_lower (Before wanted) n i x e = (λ now. absurd (false≢true now), tt)

module _ (n i : ℕ) (r : Record) (ok : lower_ok n i r ≡ true) where
  abbrev row : Row
  row = row_of r.op

  parts : (is_lower row.a n i r.a ≡ true) × (is_lower row.b n i r.b ≡ true) × (is_lower row.c n i r.c ≡ true)
  unfolding lower_ok
  parts =
      let a = is_lower row.a n i r.a in
      let b = is_lower row.b n i r.b in
      let two = both_true (a && b) (is_lower row.c n i r.c) ok in
      let one = both_true a b two.0 in
      (one.0, one.1, two.1)

  operands_lower : operands_ok n r ≡ true
  unfolding operands_ok
  operands_lower =
      rw (stream_of_lower row.a n i r.a parts.0, stream_of_lower row.b n i r.b parts.1, stream_of_lower row.c n i r.c parts.2)

  needs_lower : All (OfNeeded (λ y. y < i)) (row_reads row r)
  needs_lower = by_operand (OfNeeded (λ y. y < i)) row r (reads_lower row.a n i r.a parts.0) (reads_lower row.b n i r.b parts.1) (reads_lower row.c n i r.c parts.2)

module _ (file : List ℕ) (n : ℕ) (shapes : lowest (passes_of file n Shape) n ≡ None) (lower : every (λ i. lower_ok n i (record_of file i)) n ≡ true) where
  lower_at : (i : ℕ) → i < n → lower_ok n i (record_of file i) ≡ true
  lower_at = every_all (λ i. lower_ok n i (record_of file i)) n lower

  pub operands_pass : lowest (passes_of file n Operands) n ≡ None
  operands_pass = none (passes_of file n Operands) n (λ i l. operands_lower n i (record_of file i) (lower_at i l))

  order_is : worked_out_order (equation_at file) n ≡ up_to n
  order_is =
      record_order (needs_of file) n
      (λ i x l e. needed_of (λ y. y < i) (row_reads (row_of (record_of file i).op) (record_of file i)) (needs_lower n i (record_of file i) (lower_at i l)) x (ap (λ (ns : List ℕ). is_among ns x) (sym (needed_is (record_of file i) (all (passes_of file n Shape) n shapes i l))) ∙ e))

  pub all_placed : never_placed (worked_out_order (equation_at file) n) n ≡ None
  all_placed = none (is_among (worked_out_order (equation_at file) n)) n (λ i l. ap (λ (order : List ℕ). is_among order i) order_is ∙ up_to_has n i l)

  -- 64 numbers, each at its own place
  pub record_order_taken : (given : List ℕ) → length given ≡ 64 → ((k : ℕ) → k < 64 → get_or given k 0 ≡ k) → (few : n ≤ 64) → take n given ≡ worked_out_order (equation_at file) n
  record_order_taken given size own few =
      ext_get_or 0 (take n given) (up_to n) (long ∙ sym (up_to_length n))
      (λ x l. let m : x < n = rw long at l in rw get_or-take (own x (omega arith) ∙ sym (up_to_at n x m)))
      ∙ sym order_is
    where
      long : length (take n given) ≡ n
      long = length-take-le n given (omega (arith, size))
