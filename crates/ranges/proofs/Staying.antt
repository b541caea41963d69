-- Every value of an int stream of a listed node stays in its range: one argument over all operators, then that of solutions.
-- Assumes nothing.
use mathlib.Core.Path.{◌≡◌, refl, sym, ◌∙◌}
use mathlib.Core.Bool.{Bool, true, false, cond, ◌&&◌}
use mathlib.Core.List.{List, [], ◌∷◌}
use Prim.Native.Nat.{ℕ, ◌<◌, ◌≤◌}
use native.Mathlib.Omega.{arith}
use lib.IntN.{ℤ, ◌+ℤ◌}
use Rattle.integers.specs.Range.{lesser, greater}
use Rattle.integers.proofs.Extremes.{lesser_mono, greater_mono}
use Rattle.integers.proofs.Order.{+ℤ-mono}
use Rattle.answers.specs.Answer.{accepted}
use Rattle.answers.specs.declared.NodeValues.{NodeValues}
use Rattle.answers.proofs.Tests.{both_true}
use Rattle.node.specs.declared.equation.StreamType.{StreamType}
use Rattle.node.specs.declared.equation.StreamType.TheVariants.{Bool as BoolType, Int as IntType}
use Rattle.node.specs.declared.equation.Equation.{Equation}
use Rattle.node.specs.declared.equation.Equation.TheVariants.{Input, Constant, Not, And, Or, Same, Sum, Difference, Multiple, AtMost, Equal, If, Arrow, FollowedBy, Lesser, Greater}
use Rattle.node.specs.Equations.{type_at, equation_at}
use Rattle.node.specs.Layout.{streams_of}
use Rattle.node.specs.Reads.{row_for, reads, yields, wanted_type, All, ReadOk}
use Rattle.node.specs.Table.{row_of}
use Rattle.node.specs.Verdict.{verdict_of}
use Rattle.node.proofs.WellFormedness.{accepted_well_formed}
use Rattle.streams.specs.Meaning.{meaning}
use Rattle.streams.specs.Nodes.{node_of}
use Rattle.streams.specs.Solutions.{Streams, Solution, is_first}
use Rattle.streams.specs.Typing.{Inputs, given}
use Rattle.streams.specs.Values.{truth, Values}
use Rattle.streams.proofs.Keeping.{Keeps, solution_keeps}
use Rattle.streams.proofs.Orders.{place_of, ranked_by_place}
use Rattle.streams.proofs.Reading.{all_map₂, found, is_read}
use Rattle.ranges.specs.declared.table.Range.{Range}
use Rattle.ranges.specs.Listing.{results_ok}
use Rattle.ranges.specs.Results.{ends, is_inside, all_inside, single, sum_of, difference_of, multiple_of, lesser_of, greater_of}
use Rattle.ranges.specs.Table.{range_in, In}
use Rattle.ranges.specs.Theorems.{InputsInside, ValuesInside}
use Rattle.ranges.proofs.Extents.{wider, in_single, in_rising, in_difference, in_multiple}
use Rattle.ranges.proofs.Tables.{int_listed}

-- a bool is no int
no_int : {A : Type 0} {own : StreamType} → own ≡ IntType → own ≡ BoolType → A
no_int e f = let n : ◌≡◌ {A = ℕ} 0 1 = cc in absurd (omega arith)

module _ (own : StreamType) (r : Range) (of : ℕ → Range) (int : own ≡ IntType) where
  -- one result range inside, or two
  one : (x : Range) (z : ℤ) → all_inside r (x ∷ []) ≡ true → In x z → In r z
  unfolding all_inside
  one x z e = wider r x z (both_true (is_inside r x) true e).0

  either : (x y : Range) (b : Bool) (z w : ℤ) → all_inside r (x ∷ y ∷ []) ≡ true → (b ≡ true → In x z) → (b ≡ false → In y w) → In r (cond b z w)
  unfolding all_inside
  either x y true z w e h k = wider r x z (both_true (is_inside r x) (is_inside r y && true) e).0 (h refl)
  either x y false z w e h k = wider r y w (both_true (is_inside r y) true (both_true (is_inside r x) (is_inside r y && true) e).1).0 (k refl)

  -- one operator, of an int stream
  pub meaning_in : (e : Equation) (g : ℤ) (f : Bool) (p v : Values) → own ≡ wanted_type own (yields e) → (e ≡ Input → In r g) → all_inside r (ends e of) ≡ true → All (λ x. is_read f x ≡ true → wanted_type own x.wanted ≡ IntType → In (of x.stream) (found p v x)) (reads e) → In r (meaning e g f p v)
  unfolding row_of row_for reads
  meaning_in Input g f p v y i a h = i refl
  meaning_in (Constant k) g f p v y i a h = one (single k) k a (in_single k)
  meaning_in (Not x) g f p v y i a h = no_int int y
  meaning_in (And x z) g f p v y i a h = no_int int y
  meaning_in (Or x z) g f p v y i a h = no_int int y
  meaning_in (Same x z) g f p v y i a h = no_int int y
  meaning_in (Sum x z) g f p v y i a h = one (sum_of (of x) (of z)) _ a (in_rising ◌+ℤ◌ +ℤ-mono (of x) (of z) _ _ (h.0 refl refl) (h.1.0 refl refl))
  meaning_in (Difference x z) g f p v y i a h = one (difference_of (of x) (of z)) _ a (in_difference (of x) (of z) _ _ (h.0 refl refl) (h.1.0 refl refl))
  meaning_in (Multiple k x) g f p v y i a h = one (multiple_of k (of x)) _ a (in_multiple k (of x) _ (h.0 refl refl))
  meaning_in (AtMost x z) g f p v y i a h = no_int int y
  meaning_in (Equal x z) g f p v y i a h = no_int int y
  meaning_in (If c x z) g f p v y i a h = either (of x) (of z) (truth (v c)) (v x) (v z) a (λ b. h.0 refl int) (λ b. h.1.0 refl int)
  meaning_in (Arrow x z) g f p v y i a h = either (of x) (of z) f (v x) (v z) a (λ b. h.0 refl int) (λ b. h.1.0 refl int)
  meaning_in (FollowedBy x z) g f p v y i a h = either (of x) (of z) f (v x) (p z) a (λ b. h.0 refl int) (λ b. h.1.0 (rw b) int)
  meaning_in (Lesser x z) g f p v y i a h = one (lesser_of (of x) (of z)) _ a (in_rising lesser lesser_mono (of x) (of z) _ _ (h.0 refl refl) (h.1.0 refl refl))
  meaning_in (Greater x z) g f p v y i a h = one (greater_of (of x) (of z)) _ a (in_rising greater greater_mono (of x) (of z) _ _ (h.0 refl refl) (h.1.0 refl refl))

module _ (file : List ℕ) (table : List ℤ) {node : NodeValues} (e : verdict_of file ≡ accepted node) (results : (i : ℕ) → i < streams_of file → results_ok file table i ≡ true) where
  -- what every value of stream s keeps
  abbrev Inside : ℕ → ℤ → Type 0
  Inside s z = type_at file s ≡ IntType → In (range_in table s) z

  rows_keep : (inputs : List ℤ) → InputsInside file table inputs → (first : Bool) → Keeps (node_of file) Inside inputs first
  rows_keep inputs inside first s l p v h int =
      let wf = accepted_well_formed file e in
      meaning_in (type_at file s) (range_in table s) (range_in table) int (equation_at file s) (given (node_of file) inputs s) first p v (wf.own s l) (λ is. inside s l is int)
      (sym (int_listed file table s int) ∙ results s l)
      (all_map₂ {P = ReadOk (streams_of file) (type_at file) s} {R = λ x. is_read first x ≡ true → wanted_type (type_at file s) x.wanted ≡ IntType → In (range_in table x.stream) (found p v x)}
      (λ x ok keeps is wanted. keeps is (ok.typed ∙ wanted))
      (reads (equation_at file s)) (wf.operands s l) h)

  pub solution_in : (inputs : Inputs) (v : Streams) → Solution (node_of file) inputs v → (t : ℕ) → ((j : ℕ) → j ≤ t → InputsInside file table (inputs j)) → ValuesInside file table (v t)
  solution_in inputs v of_v t inside =
      solution_keeps (node_of file) (place_of (node_of file)) (ranked_by_place (node_of file) (accepted_well_formed file e)) Inside inputs v of_v.holds t
      (λ j l. rows_keep (inputs j) (inside j l) (is_first j))
