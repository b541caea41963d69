-- `look_up::follow` and `look_up::look`, which call each other, meet their contracts: each call is of a lower number. Three laws say what
-- the visits and the value are in the words of specs; each way out is then one of Steps.
-- Assumes nothing.
use mathlib.Core.Path.{◌≡◌, ◌∙◌, ap, ap₂, subst}
use mathlib.Core.Bool.{Bool}
use mathlib.Core.List.{List}
use Prim.Native.Nat.{ℕ, ◌<◌}
use native.Mathlib.Omega.{arith}
use lib.Dec.{eqb}
use lib.IntN.{ℤ, pos}
use mir.Syntax.{w64}
use mir.Val.{SFits, of_z}
use mir.Facts.{to_z-of_z}
use borrow.Author.Rules.{rules}
use Rattle.integers.specs.Range.{checked_of}
use Rattle.node.specs.declared.equation.Equation.{Equation}
use Rattle.node.specs.Equations.{equation_among, equation_at}
use Rattle.streams.specs.Values.{truth}
use Rattle.streams.proofs.Numbers.{equals_is}
use Rattle.look_up.specs.declared.visits.Visit.{Visit}
use Rattle.look_up.specs.Visits.{first_visit, second_visit}
use Rattle.look_up.specs.Looking.{over, look_rank, visit_rank, Ready}
use Rattle.look_up.proofs.Combining.{over_same}
use Rattle.look_up.proofs.Steps.{in_table, equation_is, followed_there, hit, missed_one, missed_two, missed, stored, ready_one, ready_two, there_ready}
use Rattle.look_up.proofs.table.+follow_look.Goals as goal
use Rattle.std.specs.Prelude.{Option}

-- the code's test of the first value is that of the definitions
true_is : {x : ℤ} → SFits w64 x → eqb (of_z w64 x) 1 ≡ truth x
unfolding truth
true_is {x} f = equals_is x (pos 1) f (search rules)

-- ---- what is visited, and the value, of the equation that was read

module _ {file : List ℕ} {n t s : ℕ} (ready : Ready file n t s) {e : Equation} (read : e ≡ equation_among file n s) where
  is_one : {o : Option Visit} → o ≡ first_visit e t → o ≡ first_visit (equation_at file s) t
  is_one o = o ∙ ap (λ (q : Equation). first_visit q t) (read ∙ equation_is _ _ _ _ ready)

  is_two : {o : Option Visit} {x : ℤ} → o ≡ second_visit e t (eqb (of_z w64 x) 1) → SFits w64 x → o ≡ second_visit (equation_at file s) t (truth x)
  is_two o f = o ∙ ap₂ (λ (q : Equation) (b : Bool). second_visit q t b) (read ∙ equation_is _ _ _ _ ready) (true_is f)

  is_last : {z : Option ℤ} {g' g x' x y' y : ℤ} → z ≡ checked_of (over e g' x' y') → g' ≡ g → x' ≡ x → y' ≡ y → z ≡ checked_of (over (equation_at file s) g x y)
  is_last z g x y = z ∙ over_same (read ∙ equation_is _ _ _ _ ready) g x y

-- ---- follow

pub follow-bounds : goal.follow-bounds
follow-bounds t c = omega (arith, in_table _ _ _ _ (there_ready _ _ _ _ _ c.in-Some.is c.requires).1)

pub follow-returns-in-Some-table : goal.follow-returns-in-Some-table
follow-returns-in-Some-table t c =
    let f : SFits w64 c.in-Some-table.x = search rules in
    rw (to_z-of_z f)
    (followed_there _ _ _ _ _ _ _ c.in-Some.is (hit _ _ _ _ (there_ready _ _ _ _ _ c.in-Some.is c.requires).1 _ _ c.in-Some-table.is))

pub follow-look-requires : goal.follow-look-requires
follow-look-requires t c =
    let r = there_ready _ _ _ _ _ c.in-Some.is c.requires in
    (subst (λ (k : ℕ). look_rank c.args.file.now c.in-Some.visit.instant c.in-Some.visit.stream < k) c.decreases r.0, r.1)

pub follow-returns : goal.follow-returns
follow-returns t c = followed_there _ _ _ _ _ _ _ c.in-Some.is c.look.ensures

-- ---- look

pub look-follow-requires : goal.look-follow-requires
look-follow-requires t c =
    let r = ready_one _ _ _ _ c.requires _ (is_one c.requires c.equation_among-e.ensures c.first_visit.ensures) in
    (subst (λ (k : ℕ). visit_rank c.args.file.now c.first_visit.result < k) c.decreases r.0, r.1)

pub look-returns-in_err-x : goal.look-returns-in_err-x
look-returns-in_err-x t c =
    let one = is_one c.requires c.equation_among-e.ensures c.first_visit.ensures in
    rw c.from_residual.ensures (missed_one _ _ _ _ c.requires _ _ _ _ one c.follow.ensures c.in_err-x.was)

pub look-follow-requires-2 : goal.look-follow-requires-2
look-follow-requires-2 t c =
    let f : SFits w64 c.in_ok-x.x = search rules in
    let r = ready_two _ _ _ _ c.requires _ _ (is_two c.requires c.equation_among-e.ensures c.second_visit.ensures f) in
    (subst (λ (k : ℕ). visit_rank c.args.file.now c.second_visit.result < k) c.decreases r.0, r.1)

pub look-returns-in_err-y : goal.look-returns-in_err-y
look-returns-in_err-y t c =
    let f : SFits w64 c.in_ok-x.x = search rules in
    let one = is_one c.requires c.equation_among-e.ensures c.first_visit.ensures in
    let two = is_two c.requires c.equation_among-e.ensures c.second_visit.ensures f in
    rw c.from_residual-in_err-y.ensures
    (missed_two _ _ _ _ c.requires _ _ _ _ one c.follow.ensures _ c.in_ok-x.was _ _ _ two c.follow-2.ensures c.in_err-y.was)

pub look-bounds-table-at : goal.look-bounds-table-at
look-bounds-table-at t c = omega (arith, in_table _ _ _ _ c.requires)

pub look-returns-in_err-z : goal.look-returns-in_err-z
look-returns-in_err-z t c =
    let g : SFits w64 c.unwrap_or.result = search rules in
    let x : SFits w64 c.in_ok-x.x = search rules in
    let y : SFits w64 c.in_ok-y.y = search rules in
    let one = is_one c.requires c.equation_among-e.ensures c.first_visit.ensures in
    let two = is_two c.requires c.equation_among-e.ensures c.second_visit.ensures x in
    let last = is_last c.requires c.equation_among-e.ensures c.combined.ensures (to_z-of_z g ∙ c.unwrap_or.ensures) (to_z-of_z x) (to_z-of_z y) in
    rw c.from_residual-in_err-z.ensures
    (missed _ _ _ _ c.requires _ _ _ _ one c.follow.ensures _ c.in_ok-x.was _ _ _ two c.follow-2.ensures _ c.in_ok-y.was _ last c.in_err-z.was)

pub look-bounds-table-at-2 : goal.look-bounds-table-at-2
look-bounds-table-at-2 t c = omega (arith, in_table _ _ _ _ c.requires)

pub look-returns : goal.look-returns
look-returns t c =
    let f : SFits w64 c.in_ok-z.z = search rules in
    let g : SFits w64 c.unwrap_or.result = search rules in
    let x : SFits w64 c.in_ok-x.x = search rules in
    let y : SFits w64 c.in_ok-y.y = search rules in
    let one = is_one c.requires c.equation_among-e.ensures c.first_visit.ensures in
    let two = is_two c.requires c.equation_among-e.ensures c.second_visit.ensures x in
    let last = is_last c.requires c.equation_among-e.ensures c.combined.ensures (to_z-of_z g ∙ c.unwrap_or.ensures) (to_z-of_z x) (to_z-of_z y) in
    rw (to_z-of_z f) (stored _ _ _ _ c.requires _ _ _ _ one c.follow.ensures _ c.in_ok-x.was _ _ _ two c.follow-2.ensures _ c.in_ok-y.was _ last _ c.in_ok-z.was)
