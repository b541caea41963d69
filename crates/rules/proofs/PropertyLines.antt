-- Property lines: the base's is satisfied by a window in which the property fails at some offset that it covers, the step's by one in
-- which it holds at the offsets below k and fails at k.
-- Assumes nothing.
use mathlib.Core.Path.{◌≡◌, refl, ◌∙◌, ap}
use mathlib.Core.Bool.{Bool, true, false, cond, not, ◌&&◌}
use Prim.Native.Nat.{ℕ, ◌+◌, ◌<◌, ◌≤◌}
use native.Mathlib.Omega.{arith}
use borrow.Author.Tests.{leb-true, eqb-true, eqb-false}
use lib.Dec.{leb, eqb}
use Rattle.answers.specs.Checks.{every}
use Rattle.answers.proofs.Every.{every_all}
use Rattle.answers.proofs.Tests.{both_true}
use Rattle.streams.specs.Values.{truth}
use Rattle.constraints.specs.Layout.{Constraint, Line}
use Rattle.constraints.specs.Linear.{variable}
use Rattle.constraints.proofs.Blocks.{is_listed_is}
use Rattle.literals.specs.Literals.{positive, negative}
use Rattle.rules.specs.Lines.{not_property_at, base_property_ok, step_property_ok}
use Rattle.rules.specs.Satisfaction.{Valuation, literal_true, Satisfies}
use Rattle.rules.proofs.Literals.{negative_true, positive_true}

-- the property at an offset
abbrev pub holds_at : Valuation → (prop : ℕ) → (q : ℕ) → Bool
holds_at w prop q = truth (w (variable q prop))

module _ (constraints : ℕ → Constraint) (w : Valuation) (k prop : ℕ) (deep : k ≤ 8) (few : prop < 64) where
  not_property : (q : ℕ) → q ≤ k → holds_at w prop q ≡ false → literal_true constraints w (negative (variable q prop)) ≡ true
  not_property q l e = negative_true constraints w (variable q prop) (omega arith) ∙ ap not e

  is_property : (q : ℕ) → q ≤ k → holds_at w prop q ≡ true → literal_true constraints w (positive (variable q prop)) ≡ true
  is_property q l e = positive_true constraints w (variable q prop) (omega arith) ∙ e

  pub base_property_satisfied : (covered : ℕ) → covered ≤ k + 1 → (line : Line) → base_property_ok covered prop line ≡ true → (q : ℕ) → q < covered → holds_at w prop q ≡ false → Satisfies constraints w line
  unfolding base_property_ok
  base_property_satisfied covered within line e q l f =
      let all = both_true (eqb line.head.q 0 && eqb line.head.count _) (every (not_property_at prop line.literal) _) e in
      let first = both_true (eqb line.head.q 0) (eqb line.head.count _) all.0 in
      let listed = is_listed_is line q (omega (arith, eqb-true line.head.count _ first.1)) (omega arith) in
      let literal = eqb-true (line.literal q) (negative (variable q prop)) (every_all (not_property_at prop line.literal) _ all.1 q listed) in
      record {
        which = q;
        listed = listed;
        holds = ap (literal_true constraints w) literal ∙ not_property q (omega arith) f;
      }

  -- the literal of a step's property line at offset q
  step_literal : ((j : ℕ) → j < k → holds_at w prop j ≡ true) → holds_at w prop k ≡ false
      → (q : ℕ) → q ≤ k → (b : Bool) → eqb q k ≡ b
      → literal_true constraints w (cond b (negative (variable q prop)) (positive (variable q prop))) ≡ true
  step_literal before now q l true e =
      not_property q l (ap (holds_at w prop) (eqb-true q k e) ∙ now)
  step_literal before now q l false e =
      let other = eqb-false q k e in
      is_property q l (before q (omega (arith, other)))

  pub step_property_satisfied : (line : Line) → step_property_ok k prop line ≡ true → ((j : ℕ) → j < k → holds_at w prop j ≡ true) → holds_at w prop k ≡ false → Satisfies constraints w line
  unfolding step_property_ok
  step_property_satisfied line e before now =
      let q = line.head.q in
      let literal = cond (eqb q k) (negative (variable q prop)) (positive (variable q prop)) in
      let all = both_true (leb q k && eqb line.head.count 1) (eqb (line.literal 0) literal) e in
      let first = both_true (leb q k) (eqb line.head.count 1) all.0 in
      record {
        which = 0;
        listed = is_listed_is line 0 (omega (arith, eqb-true line.head.count 1 first.1)) (omega arith);
        holds =
            ap (literal_true constraints w) (eqb-true (line.literal 0) literal all.1)
            ∙ step_literal before now q (leb-true q k first.0) (eqb q k) refl;
      }
