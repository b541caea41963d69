-- What the ways out of the node reader say: rules 7 and 8 decide where 5, 6 and 23 pass, and keep the order.
-- Assumes nothing.
use mathlib.Core.Path.{◌≡◌, sym, ◌∙◌, ap, subst}
use mathlib.Core.Bool.{true}
use mathlib.Core.List.{List}
use Prim.Native.Nat.{ℕ}
use lib.ListN.{length, take}
use Rattle.answers.specs.declared.Place.TheVariants.{File}
use Rattle.answers.specs.declared.Refusal.{Refusal}
use Rattle.answers.specs.declared.NodeValues.{NodeValues}
use Rattle.answers.specs.Answer.{Answer, answer_map}
use Rattle.answers.specs.Checks.{check, lowest}
use Rattle.answers.proofs.Checks.{HandsOn, handed_on}
use Rattle.node.specs.declared.reading.ReadNode.{ReadNode}
use Rattle.node.specs.declared.reading.RecordRule.TheVariants.{Shape, Operands}
use Rattle.node.specs.declared.layout.Trailer.{Trailer}
use Rattle.node.specs.Equations.{equation_at}
use Rattle.node.specs.Layout.{trailer_of, streams_of}
use Rattle.node.specs.Outcome.{FileRules}
use Rattle.node.specs.Reads.{worked_out_order, order_of}
use Rattle.node.specs.Rules.{length_ok, fixed_ok, counts_ok, distance_ok}
use Rattle.node.specs.Verdict.{passes_of, never_placed, types_verdict, records_verdict, verdict_of}
use Rattle.std.specs.Prelude.{None, Ok, Err, IfOk}

-- what is asked of a node that is read: its verdict, and of an accepted one its order
abbrev pub Reads : Answer ReadNode → (verdict : Answer NodeValues) → (order : List ℕ → Type 0) → Type 0
Reads read verdict order = (answer_map (λ (node : ReadNode). node.values) read ≡ verdict) × IfOk read (λ node. order node.order)

-- the verdict of what a refused check hands on
pub refusal_read : {e : Refusal} (read : Answer ReadNode) → HandsOn e read → answer_map (λ (node : ReadNode). node.values) read ≡ Err e
refusal_read read h = ap (answer_map (λ (node : ReadNode). node.values)) (handed_on read h)

module _ (file : List ℕ) (n property : ℕ) (given : List ℕ) where
  pub typed_read :
      lowest (passes_of file n Shape) n ≡ None
      → lowest (passes_of file n Operands) n ≡ None
      → never_placed (worked_out_order (equation_at file) n) n ≡ None
      → take n given ≡ worked_out_order (equation_at file) n
      → (read : Answer ReadNode)
      → Reads read (types_verdict file n property) (λ order. order ≡ given)
      → Reads read (records_verdict file n property) (λ order. take n order ≡ worked_out_order (equation_at file) n)
  unfolding records_verdict
  typed_read shapes streams placed taken (Ok node) reads = (reads.0 ∙ sym (rw (shapes, streams, placed)), ap (take n) reads.1 ∙ taken)
  typed_read shapes streams placed taken (Err e) reads = (reads.0 ∙ sym (rw (shapes, streams, placed)), tt)

-- the rules by the trailer that was read
module _ (file : List ℕ) (t : Trailer) (is_read : t ≡ trailer_of file) where
  pub verdict_by :
      verdict_of file
      ≡ check (length_ok (length file)) 1 File
      (check (fixed_ok t) 2 File
      (check (counts_ok t) 3 File
      (check (distance_ok t (length file)) 4 File
      (records_verdict file t.streams t.property))))
  unfolding verdict_of
  verdict_by = rw is_read

  pub file_rules : length_ok (length file) ≡ true → fixed_ok t ≡ true → counts_ok t ≡ true → distance_ok t (length file) ≡ true → FileRules file
  file_rules size fixed counts distance =
      record { size = size; fixed = rw (← is_read) fixed; counts = rw (← is_read) counts; distance = rw (← is_read) distance }

  -- rules 5 to 8 and 23 decide where 1 to 4 pass
  module _ (rules : FileRules file) (read : Answer ReadNode) where
    -- what is read of the records, by the trailer's n and property
    abbrev ByTrailer : Trailer → Type 0
    ByTrailer t = Reads read (records_verdict file t.streams t.property) (λ order. take t.streams order ≡ worked_out_order (equation_at file) t.streams)

    pub records_decide : ByTrailer t → Reads read (verdict_of file) (λ order. take (streams_of file) order ≡ order_of file)
    unfolding verdict_of
    records_decide by_records =
        let own = subst ByTrailer is_read by_records in
        (own.0 ∙ sym (rw (rules.size, rules.fixed, rules.counts, rules.distance)), own.1)
