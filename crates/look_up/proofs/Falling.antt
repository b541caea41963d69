-- Each visit of an accepted node is of a stream that is there, and falls: at one instant along the worked-out order, else by an instant.
-- Assumes nothing.
use mathlib.Core.Path.{◌≡◌, refl}
use mathlib.Core.Bool.{Bool, true, false, true≢false}
use mathlib.Core.List.{List}
use Prim.Native.Nat.{ℕ, zero, suc, ◌<◌, ◌≤◌}
use native.Mathlib.Omega.{arith}
use Rattle.answers.specs.Answer.{accepted}
use Rattle.answers.specs.declared.NodeValues.{NodeValues}
use Rattle.std.specs.Prelude.{None, Option, Some}
use Rattle.node.specs.declared.equation.Equation.{Equation}
use Rattle.node.specs.declared.equation.Equation.TheVariants.{Input, Constant, Not, And, Or, Same, Sum, Difference, Multiple, AtMost, Equal, If, Arrow, FollowedBy, Lesser, Greater}
use Rattle.node.specs.Equations.{equation_at}
use Rattle.node.specs.Layout.{streams_of}
use Rattle.node.specs.Order.{place_in}
use Rattle.node.specs.Reads.{All, Read, row_for, reads, order_of}
use Rattle.node.specs.Table.{row_of}
use Rattle.node.specs.Verdict.{verdict_of}
use Rattle.node.proofs.Notes.{accepted_sizes}
use Rattle.node.proofs.WellFormedness.{accepted_well_formed}
use Rattle.streams.specs.Nodes.{node_of}
use Rattle.streams.proofs.Orders.{Settled, ranked_by_place}
use Rattle.look_up.specs.declared.visits.Visit.{Visit}
use Rattle.look_up.specs.Visits.{first_visit, second_visit, visit_at}
use Rattle.look_up.specs.Theorems.{AllOperands}
use Rattle.look_up.specs.Looking.{VisitIn, VisitEarly, look_rank, visit_rank}

-- the visit is of a stream of the n, at instant t or before, and its number is lower
pub record Falls (file : List ℕ) (n t s : ℕ) (visit : Option Visit) : Type 0 where
  pub within : VisitIn n visit
  pub early : VisitEarly visit (suc t)
  pub rank : visit_rank file visit < look_rank file t s

module _ (file : List ℕ) (n s : ℕ) (small : n ≤ 64) (has : (i : ℕ) → i < n → place_in (order_of file) i < n) where
  abbrev Good : Read → Type 0
  Good = Settled n (place_in (order_of file)) s

  nothing : (t : ℕ) → Falls file n t s None
  nothing t = record { within = tt; early = tt; rank = omega arith }

  at_now : (t : ℕ) (r : Read) → t < 16 → r.now ≡ true → Good r → Falls file n t s (Some (visit_at t r.stream))
  at_now t r early now ok = let l = ok.lower now in record { within = (early, ok.below); early = omega arith; rank = omega arith }

  at_before : (t : ℕ) (r : Read) → suc t < 16 → Good r → Falls file n (suc t) s (Some (visit_at t r.stream))
  at_before t r early ok = let l = has r.stream ok.below in record { within = (omega arith, ok.below); early = omega arith; rank = omega arith }

  first_falls : (e : Equation) (t : ℕ) → t < 16 → All Good (reads e) → Falls file n t s (first_visit e t)
  unfolding row_of row_for reads
  first_falls Input t early ok = nothing t
  first_falls (Constant k) t early ok = nothing t
  first_falls (Not a) t early ok = at_now t _ early refl ok.0
  first_falls (And a b) t early ok = at_now t _ early refl ok.0
  first_falls (Or a b) t early ok = at_now t _ early refl ok.0
  first_falls (Same a b) t early ok = at_now t _ early refl ok.0
  first_falls (Sum a b) t early ok = at_now t _ early refl ok.0
  first_falls (Difference a b) t early ok = at_now t _ early refl ok.0
  first_falls (Multiple k a) t early ok = at_now t _ early refl ok.0
  first_falls (AtMost a b) t early ok = at_now t _ early refl ok.0
  first_falls (Equal a b) t early ok = at_now t _ early refl ok.0
  first_falls (If c a b) t early ok = at_now t _ early refl ok.1.1.0
  first_falls (Arrow a b) zero early ok = at_now zero _ early refl ok.0
  first_falls (Arrow a b) (suc t) early ok = at_now (suc t) _ early refl ok.1.0
  first_falls (FollowedBy a b) zero early ok = at_now zero _ early refl ok.0
  first_falls (FollowedBy a b) (suc t) early ok = at_before t _ early ok.1.0
  first_falls (Lesser a b) t early ok = at_now t _ early refl ok.0
  first_falls (Greater a b) t early ok = at_now t _ early refl ok.0

  second_falls : (e : Equation) (t : ℕ) (holds : Bool) → t < 16 → All Good (reads e) → Falls file n t s (second_visit e t holds)
  unfolding row_of row_for reads
  second_falls Input t holds early ok = nothing t
  second_falls (Constant k) t holds early ok = nothing t
  second_falls (Not a) t holds early ok = nothing t
  second_falls (And a b) t holds early ok = at_now t _ early refl ok.1.0
  second_falls (Or a b) t holds early ok = at_now t _ early refl ok.1.0
  second_falls (Same a b) t holds early ok = at_now t _ early refl ok.1.0
  second_falls (Sum a b) t holds early ok = at_now t _ early refl ok.1.0
  second_falls (Difference a b) t holds early ok = at_now t _ early refl ok.1.0
  second_falls (Multiple k a) t holds early ok = nothing t
  second_falls (AtMost a b) t holds early ok = at_now t _ early refl ok.1.0
  second_falls (Equal a b) t holds early ok = at_now t _ early refl ok.1.0
  second_falls (If c a b) t true early ok = at_now t _ early refl ok.0
  second_falls (If c a b) t false early ok = at_now t _ early refl ok.1.0
  second_falls (Arrow a b) t holds early ok = nothing t
  second_falls (FollowedBy a b) t holds early ok = nothing t
  second_falls (Lesser a b) t holds early ok = at_now t _ early refl ok.1.0
  second_falls (Greater a b) t holds early ok = at_now t _ early refl ok.1.0

module _ (file : List ℕ) {node : NodeValues} (e : verdict_of file ≡ accepted node) where
  pub few : streams_of file ≤ 64
  few = (accepted_sizes file e).few

  pub places : (i : ℕ) → i < streams_of file → place_in (order_of file) i < streams_of file
  places = (accepted_well_formed file e).ordered.has

  pub one_falls : (t s : ℕ) → t < 16 → s < streams_of file → Falls file (streams_of file) t s (first_visit (equation_at file s) t)
  one_falls t s early l =
      first_falls file (streams_of file) s few places (equation_at file s) t early (ranked_by_place (node_of file) (accepted_well_formed file e) s l)

  pub two_falls : (t s : ℕ) (holds : Bool) → t < 16 → s < streams_of file → Falls file (streams_of file) t s (second_visit (equation_at file s) t holds)
  two_falls t s holds early l =
      second_falls file (streams_of file) s few places (equation_at file s) t holds early (ranked_by_place (node_of file) (accepted_well_formed file e) s l)

pub all_operands : AllOperands
unfolding row_of row_for reads
all_operands Input t holds e = refl
all_operands (Constant k) t holds e = refl
all_operands (Not a) t holds e = refl
all_operands (And a b) t holds e = refl
all_operands (Or a b) t holds e = refl
all_operands (Same a b) t holds e = refl
all_operands (Sum a b) t holds e = refl
all_operands (Difference a b) t holds e = refl
all_operands (Multiple k a) t holds e = refl
all_operands (AtMost a b) t holds e = refl
all_operands (Equal a b) t holds e = refl
all_operands (If c a b) t holds e = absurd (true≢false e)
all_operands (Arrow a b) t holds e = absurd (true≢false e)
all_operands (FollowedBy a b) t holds e = absurd (true≢false e)
all_operands (Lesser a b) t holds e = refl
all_operands (Greater a b) t holds e = refl
