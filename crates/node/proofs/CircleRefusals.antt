-- 23 is given just where some chain of operands needed now returns to its start.
-- Assumes nothing.
use mathlib.Core.Path.{◌≡◌, refl, sym, ◌∙◌, ap}
use mathlib.Core.Bool.{true, false≢true}
use mathlib.Core.List.{List}
use Prim.Native.Nat.{ℕ, ◌<◌}
use native.Mathlib.Omega.{arith}
use borrow.Author.Tests.{ltb-true}
use Rattle.answers.specs.declared.Place.{Place}
use Rattle.answers.specs.declared.Place.TheVariants.{Record as AtRecord}
use Rattle.answers.specs.Answer.{refused}
use Rattle.answers.proofs.Lowest.{none, all}
use Rattle.node.specs.declared.layout.Record.{Record}
use Rattle.node.specs.declared.reading.RecordRule.TheVariants.{Shape, Operands}
use Rattle.node.specs.declared.table.Operand.{Operand}
use Rattle.node.specs.declared.table.Operand.TheVariants.{Unused, Now, Before}
use Rattle.node.specs.Layout.{streams_of, record_of}
use Rattle.node.specs.Order.{is_among, Circle}
use Rattle.node.specs.Outcome.{FileRules, AllKeep, FirstFailure, at_1, at_2, at_3, at_4, at_5, at_6, at_23, at_7, at_8, CircleRefused}
use Rattle.node.specs.Reads.{reading, row_reads, All, needs_of, order_of}
use Rattle.node.specs.Rules.{is_stream, operands_ok}
use Rattle.node.specs.Table.{row_of}
use Rattle.node.specs.Verdict.{never_placed, records_verdict, verdict_of}
use Rattle.node.proofs.Circles.{placed_no_circle, unplaced_circle}
use Rattle.node.proofs.Needs.{by_operand, operand_streams, OfNeeded, needed_of, needed_is}
use Rattle.node.proofs.Outcomes.{refused_first}
use Rattle.std.specs.Prelude.{None, Option, Some}

reads_below : (operand : Operand) (n x : ℕ) → is_stream operand n x ≡ true → All (OfNeeded (λ y. y < n)) (reading operand x)
reads_below Unused n x e = tt
reads_below (Now wanted) n x e = (λ now. ltb-true x n e, tt)
reads_below (Before wanted) n x e = (λ now. absurd (false≢true now), tt)

needs_below : (n : ℕ) (r : Record) → operands_ok n r ≡ true → All (OfNeeded (λ y. y < n)) (row_reads (row_of r.op) r)
needs_below n r ok =
    let row = row_of r.op in
    let streams = operand_streams n r ok in
    by_operand (OfNeeded (λ y. y < n)) row r (reads_below row.a n r.a streams.0) (reads_below row.b n r.b streams.1) (reads_below row.c n r.c streams.2)

module _ (s : List ℕ) where
  abbrev n : ℕ
  n = streams_of s

  inside : AllKeep s Shape → AllKeep s Operands → (i x : ℕ) → i < n → is_among (needs_of s i) x ≡ true → x < n
  inside shapes operands i x l e =
      let r = record_of s i in
      needed_of (λ y. y < n) (row_reads (row_of r.op) r) (needs_below n r (operands i l)) x
      (ap (λ (ns : List ℕ). is_among ns x) (sym (needed_is r (shapes i l))) ∙ e)

  circle_of : {number : ℕ} {place : Place} → FirstFailure s number place → number ≡ 23 → Circle (needs_of s) n
  circle_of (at_1 a) e = absurd (omega arith)
  circle_of (at_2 a b) e = absurd (omega arith)
  circle_of (at_3 a b c) e = absurd (omega arith)
  circle_of (at_4 a b c d) e = absurd (omega arith)
  circle_of (at_5 a b) e = absurd (omega arith)
  circle_of (at_6 a b c) e = absurd (omega arith)
  circle_of (at_23 {i} file shapes operands never) e = unplaced_circle (needs_of s) n (inside shapes operands) i never.below never.fails
  circle_of (at_7 a b c d g) e = absurd (omega arith)
  circle_of (at_8 a b c d g h) e = absurd (omega arith)

  refusal_of : FileRules s → AllKeep s Shape → AllKeep s Operands → Circle (needs_of s) n → (i : ℕ) × (verdict_of s ≡ refused 23 (AtRecord i))
  unfolding verdict_of records_verdict
  refusal_of file shapes operands circle = go (never_placed (order_of s) n) refl
    where
      go : (f : Option ℕ) → never_placed (order_of s) n ≡ f → (i : ℕ) × (verdict_of s ≡ refused 23 (AtRecord i))
      go (Some i) e = (i, rw (file.size, file.fixed, file.counts, file.distance, none _ _ shapes, none _ _ operands, e))
      go None e = absurd (placed_no_circle (needs_of s) n circle.0 (all (is_among (order_of s)) n e circle.0 circle.1) circle.2)

  pub circle_refused : CircleRefused s
  circle_refused = record { circle = λ e. circle_of (refused_first s e) refl; refusal = refusal_of }
