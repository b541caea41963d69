-- An equation's value rests on what it visits alone; so the answers of the visits give its own.
-- Assumes nothing.
use mathlib.Core.Path.{◌≡◌, refl, sym, ◌∙◌, ap, subst}
use mathlib.Core.Bool.{Bool, true, false, cond}
use Prim.Native.Nat.{ℕ, zero, suc, ◌-◌, ◌<◌}
use native.Mathlib.Omega.{arith}
use lib.IntN.{ℤ}
use Rattle.integers.specs.Range.{inside, checked_of}
use Rattle.node.specs.declared.equation.Equation.{Equation}
use Rattle.node.specs.declared.equation.Equation.TheVariants.{Input, Constant, Not, And, Or, Same, Sum, Difference, Multiple, AtMost, Equal, If, Arrow, FollowedBy, Lesser, Greater}
use Rattle.streams.specs.Meaning.{meaning}
use Rattle.streams.specs.Solutions.{Streams, is_first, before}
use Rattle.streams.specs.Values.{truth}
use Rattle.look_up.specs.Visits.{first_visit, second_visit, visit_at, To, value_at}
use Rattle.look_up.specs.Visited.{Equations, one, two, Visited, here, by_one, by_two, VisitedInside}
use Rattle.look_up.specs.Looking.{Outcome, OutcomeTo, over, Obeys}
use Rattle.std.specs.Prelude.{None, Option, Some}

module _ (v : Streams) (g x y : ℤ) where
  taken : (t a b : ℕ) (h : Bool) → y ≡ value_at v (cond h (Some (visit_at t a)) (Some (visit_at t b))) → cond h y y ≡ cond h (v t a) (v t b)
  taken t a b true q = q
  taken t a b false q = q

  -- the equation over its visits is the equation
  pub over_visits : (e : Equation) (t : ℕ) → x ≡ value_at v (first_visit e t) → y ≡ value_at v (second_visit e t (truth (value_at v (first_visit e t)))) → over e g x y ≡ meaning e g (is_first t) (before v t) (v t)
  over_visits Input t p q = refl
  over_visits (Constant k) t p q = refl
  over_visits (Not a) t p q = rw p
  over_visits (And a b) t p q = rw (p, q)
  over_visits (Or a b) t p q = rw (p, q)
  over_visits (Same a b) t p q = rw (p, q)
  over_visits (Sum a b) t p q = rw (p, q)
  over_visits (Difference a b) t p q = rw (p, q)
  over_visits (Multiple k a) t p q = rw p
  over_visits (AtMost a b) t p q = rw (p, q)
  over_visits (Equal a b) t p q = rw (p, q)
  over_visits (If c a b) t p q = rw p (taken t a b (truth (v t c)) q)
  over_visits (Arrow a b) zero p q = p
  over_visits (Arrow a b) (suc t) p q = p
  over_visits (FollowedBy a b) zero p q = p
  over_visits (FollowedBy a b) (suc t) p q = p
  over_visits (Lesser a b) t p q = rw (p, q)
  over_visits (Greater a b) t p q = rw (p, q)

-- the visits of 12 and 13, by the test of the first instant
module _ (a b : ℕ) where
  pub arrow_first : (t : ℕ) → t ≡ 0 → Some (visit_at t a) ≡ first_visit (Arrow a b) t
  arrow_first zero e = refl
  arrow_first (suc t) e = absurd (omega (arith, e))

  pub arrow_later : (t : ℕ) → (t ≡ 0 → ⊥) → Some (visit_at t b) ≡ first_visit (Arrow a b) t
  arrow_later zero n = absurd (n refl)
  arrow_later (suc t) n = refl

  pub followed_first : (t : ℕ) → t ≡ 0 → Some (visit_at t a) ≡ first_visit (FollowedBy a b) t
  followed_first zero e = refl
  followed_first (suc t) e = absurd (omega (arith, e))

  pub followed_later : (t : ℕ) → (t ≡ 0 → ⊥) → Some (visit_at (t - 1) b) ≡ first_visit (FollowedBy a b) t
  followed_later zero n = absurd (n refl)
  followed_later (suc t) n = let e : suc t - 1 ≡ t = omega arith in rw e refl

-- only an input's value rests on what is given
pub given_same : (e : Equation) (g h : ℤ) (f : Bool) (p v : ℕ → ℤ) → (e ≡ Input → g ≡ h) → meaning e g f p v ≡ meaning e h f p v
given_same Input g h f p v same = same refl
given_same (Constant k) g h f p v same = refl
given_same (Not a) g h f p v same = refl
given_same (And a b) g h f p v same = refl
given_same (Or a b) g h f p v same = refl
given_same (Same a b) g h f p v same = refl
given_same (Sum a b) g h f p v same = refl
given_same (Difference a b) g h f p v same = refl
given_same (Multiple k a) g h f p v same = refl
given_same (AtMost a b) g h f p v same = refl
given_same (Equal a b) g h f p v same = refl
given_same (If c a b) g h f p v same = refl
given_same (Arrow a b) g h f p v same = refl
given_same (FollowedBy a b) g h f p v same = refl
given_same (Lesser a b) g h f p v same = refl
given_same (Greater a b) g h f p v same = refl

module _ (es : Equations) (v : Streams) (t s : ℕ) where
  all_inside_is : inside (v t s) ≡ true → ((i q : ℕ) → To (one es t s) i q → VisitedInside es v i q) → ((i q : ℕ) → To (two es v t s) i q → VisitedInside es v i q) → (j r : ℕ) → Visited es v t s j r → inside (v j r) ≡ true
  all_inside_is h a b j r here = h
  all_inside_is h a b j r (by_one to w) = a _ _ to j r w
  all_inside_is h a b j r (by_two to w) = b _ _ to j r w

  pub outside_one : OutcomeTo es v (one es t s) None → Outcome es v t s None
  outside_one o = record { instant = o.some.instant; stream = o.some.stream; visited = by_one o.led o.some.visited; leaves = o.some.leaves }

  pub outside_two : OutcomeTo es v (two es v t s) None → Outcome es v t s None
  outside_two o = record { instant = o.some.instant; stream = o.some.stream; visited = by_two o.led o.some.visited; leaves = o.some.leaves }

  pub value_is : (n : ℕ) → Obeys es n v → s < n → (g x y : ℤ) → (es s ≡ Input → g ≡ v t s) → OutcomeTo es v (one es t s) (Some x) → OutcomeTo es v (two es v t s) (Some y) → over (es s) g x y ≡ v t s
  unfolding one two
  value_is n obeys l g x y same a b =
      over_visits v g x y (es s) t a.0 b.0
      ∙ given_same (es s) g (v t s) (is_first t) (before v t) (v t) same
      ∙ sym (obeys t s l)

  pub answered : (n : ℕ) → Obeys es n v → s < n → (g x y : ℤ) → (es s ≡ Input → g ≡ v t s) → OutcomeTo es v (one es t s) (Some x) → OutcomeTo es v (two es v t s) (Some y)
      → (z : Option ℤ) → z ≡ checked_of (over (es s) g x y) → Outcome es v t s z
  unfolding checked_of
  answered n obeys l g x y same a b z e =
      subst (Outcome es v t s) (sym (e ∙ ap checked_of (value_is n obeys l g x y same a b))) (go (inside (v t s)) refl)
    where
      go : (h : Bool) → inside (v t s) ≡ h → Outcome es v t s (cond h (Some (v t s)) None)
      go true h = (refl, all_inside_is h a.1 b.1)
      go false h = record { instant = t; stream = s; visited = here; leaves = h }

pub over_same : {d e : Equation} {g h x p y q : ℤ} → d ≡ e → g ≡ h → x ≡ p → y ≡ q → checked_of (over d g x y) ≡ checked_of (over e h p q)
over_same a b c d = rw (a, b, c, d)
