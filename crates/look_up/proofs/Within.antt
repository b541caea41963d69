-- What is visited lies at no later instant, among the node's streams, in fewer steps than the table has entries; so the test of the
-- first 16 · 64 steps is the test of all.
-- Assumes nothing.
use mathlib.Core.Path.{◌≡◌, refl, sym, ◌∙◌, ap, subst}
use mathlib.Core.Logic.{◌⊎◌, inl, inr}
use mathlib.Core.Bool.{Bool, true, false, ◌&&◌, true≢false}
use mathlib.Core.List.{List}
use Prim.Native.Nat.{ℕ, zero, suc, ◌+◌, ◌*◌, ◌<◌, ◌≤◌}
use native.Mathlib.Nat.{le_refl, le_of_suc-le-suc, lt_of_le_of_lt}
use native.Mathlib.Omega.{arith}
use lib.IntN.{ℤ}
use Rattle.integers.specs.Range.{inside}
use Rattle.answers.specs.Answer.{accepted}
use Rattle.answers.specs.declared.NodeValues.{NodeValues}
use Rattle.answers.proofs.Tests.{both_true}
use Rattle.node.specs.Equations.{equation_at}
use Rattle.node.specs.Layout.{streams_of}
use Rattle.node.specs.Order.{place_in}
use Rattle.node.specs.Reads.{order_of}
use Rattle.node.specs.Verdict.{verdict_of}
use Rattle.std.specs.Prelude.{None, Option, Some}
use Rattle.streams.specs.Solutions.{Streams}
use Rattle.streams.specs.Values.{truth}
use Rattle.look_up.specs.declared.visits.Visit.{Visit}
use Rattle.look_up.specs.Visits.{second_visit, To, value_at}
use Rattle.look_up.specs.Visited.{Equations, one, two, Visited, here, by_one, by_two, VisitedInside, VisitedOutside, of_visit, inside_in}
use Rattle.look_up.proofs.Falling.{Falls, few, places, one_falls, two_falls}

-- ---- one visit

-- it leads to a lower rank, to no later instant, to a stream that is there
pub record Lower (file : List ℕ) (t s j r : ℕ) : Type 0 where
  pub rank : 64 * j + place_in (order_of file) r < 64 * t + place_in (order_of file) s
  pub instant : j ≤ t
  pub stream : r < streams_of file

led_lower : (file : List ℕ) (o : Option Visit) (t s j r : ℕ) → Falls file (streams_of file) t s o → To o j r → Lower file t s j r
led_lower file None t s j r f to = absurd to
led_lower file (Some o) t s j r f to =
    subst (λ (q : ℕ). Lower file t s q r) (sym to.0)
    (subst (λ (q : ℕ). Lower file t s o.instant q) (sym to.1)
    (let l = f.rank in record { rank = omega arith; instant = le_of_suc-le-suc f.early; stream = f.within.1 }))

-- a test of what a visit leads to
of_visit_is : (o : Option Visit) (test : ℕ → ℕ → Bool) → ((j r : ℕ) → To o j r → test j r ≡ true) → of_visit o test ≡ true
of_visit_is None test h = refl
of_visit_is (Some o) test h = h o.instant o.stream (refl, refl)

by_visit : (o : Option Visit) (test : ℕ → ℕ → Bool) → of_visit o test ≡ true → (j r : ℕ) → To o j r → test j r ≡ true
by_visit None test h j r to = absurd to
by_visit (Some o) test h j r to = rw (to.0, to.1) h

-- a visit whose test fails
record Failing (o : Option Visit) (test : ℕ → ℕ → Bool) : Type 0 where
  instant : ℕ
  stream : ℕ
  to : To o instant stream
  fails : test instant stream ≡ false

failing : (o : Option Visit) (test : ℕ → ℕ → Bool) → of_visit o test ≡ false → Failing o test
failing None test f = absurd (true≢false f)
failing (Some o) test f = record { instant = o.instant; stream = o.stream; to = (refl, refl); fails = f }

all_true_is : (a b c : Bool) → a ≡ true → b ≡ true → c ≡ true → (a && (b && c)) ≡ true
all_true_is a b c p q r = rw (p, q, r) refl

module _ (es : Equations) (v : Streams) where
  -- where all that is visited is inside, so is what is visited in k steps
  pub inside_in_is : (k t s : ℕ) → VisitedInside es v t s → inside_in es v k t s ≡ true
  unfolding inside_in
  inside_in_is zero t s all = all t s here
  inside_in_is (suc k) t s all =
      all_true_is (inside (v t s)) _ _ (all t s here)
      (of_visit_is (one es t s) _ (λ j r to. inside_in_is k j r (λ i q w. all i q (by_one to w))))
      (of_visit_is (two es v t s) _ (λ j r to. inside_in_is k j r (λ i q w. all i q (by_two to w))))

module _ (file : List ℕ) {node : NodeValues} (e : verdict_of file ≡ accepted node) (v : Streams) where
  abbrev es : Equations
  es = equation_at file

  one_lower : (t s j r : ℕ) → t < 16 → s < streams_of file → To (one es t s) j r → Lower file t s j r
  unfolding one
  one_lower t s j r early l = led_lower file (one es t s) t s j r (one_falls file e t s early l)

  two_lower : (t s j r : ℕ) → t < 16 → s < streams_of file → To (two es v t s) j r → Lower file t s j r
  unfolding two
  two_lower t s j r early l = led_lower file (two es v t s) t s j r (two_falls file e t s (truth (value_at v (one es t s))) early l)

  pub within : {t s j r : ℕ} → t < 16 → s < streams_of file → Visited es v t s j r → (j ≤ t) × (r < streams_of file)
  within {t} early l here = (le_refl t, l)
  within {t} {s} early l (by_one {i = i} {q = q} to w) =
      let b = one_lower t s i q early l to in
      let d = within (lt_of_le_of_lt b.instant early) b.stream w in
      (omega (arith, b.instant, d.0), d.1)
  within {t} {s} early l (by_two {i = i} {q = q} to w) =
      let b = two_lower t s i q early l to in
      let d = within (lt_of_le_of_lt b.instant early) b.stream w in
      (omega (arith, b.instant, d.0), d.1)

  -- in as many steps as the rank says, all is visited
  all_in : (k t s : ℕ) → t < 16 → s < streams_of file → 64 * t + place_in (order_of file) s ≤ k → inside_in es v k t s ≡ true → VisitedInside es v t s
  unfolding inside_in
  all_in zero t s early l b h j r here = h
  all_in zero t s early l b h j r (by_one {i = i} {q = q} to w) = let d = (one_lower t s i q early l to).rank in absurd (omega arith)
  all_in zero t s early l b h j r (by_two {i = i} {q = q} to w) = let d = (two_lower t s i q early l to).rank in absurd (omega arith)
  all_in (suc k) t s early l b h j r here = (both_true (inside (v t s)) _ h).0
  all_in (suc k) t s early l b h j r (by_one {i = i} {q = q} to w) =
      let d = one_lower t s i q early l to in
      let rank = d.rank in
      let tests = (both_true (inside (v t s)) _ h).1 in
      all_in k i q (lt_of_le_of_lt d.instant early) d.stream (omega arith) (by_visit (one es t s) _ (both_true (of_visit (one es t s) (λ j r. inside_in es v k j r)) _ tests).0 i q to) j r w
  all_in (suc k) t s early l b h j r (by_two {i = i} {q = q} to w) =
      let d = two_lower t s i q early l to in
      let rank = d.rank in
      let tests = (both_true (inside (v t s)) _ h).1 in
      all_in k i q (lt_of_le_of_lt d.instant early) d.stream (omega arith) (by_visit (two es v t s) _ (both_true (of_visit (one es t s) (λ j r. inside_in es v k j r)) _ tests).1 i q to) j r w

  pub all_inside_in : (t s : ℕ) → t < 16 → s < streams_of file → inside_in es v (16 * 64) t s ≡ true → VisitedInside es v t s
  all_inside_in t s early l = let p = places file e s l in let f = few file e in all_in (16 * 64) t s early l (omega arith)

  -- where the test fails, a value leaves the range
  some_in : (k t s : ℕ) → inside_in es v k t s ≡ false → VisitedOutside es v t s
  unfolding inside_in
  some_in zero t s h = record { instant = t; stream = s; visited = here; leaves = h }
  some_in (suc k) t s h = go (inside (v t s)) (of_visit (one es t s) (λ j r. inside_in es v k j r)) refl refl h (λ j r. some_in k j r)
    where
      go : (x y : Bool) → inside (v t s) ≡ x → of_visit (one es t s) (λ j r. inside_in es v k j r) ≡ y → (x && (y && of_visit (two es v t s) (λ j r. inside_in es v k j r))) ≡ false → ((j r : ℕ) → inside_in es v k j r ≡ false → VisitedOutside es v j r) → VisitedOutside es v t s
      go false y p q f below = record { instant = t; stream = s; visited = here; leaves = p }
      go true false p q f below =
          let led = failing (one es t s) _ q in
          let o = below led.instant led.stream led.fails in
          record { instant = o.instant; stream = o.stream; visited = by_one led.to o.visited; leaves = o.leaves }
      go true true p q f below =
          let led = failing (two es v t s) _ f in
          let o = below led.instant led.stream led.fails in
          record { instant = o.instant; stream = o.stream; visited = by_two led.to o.visited; leaves = o.leaves }

  pub inside_or_outside : (t s : ℕ) → t < 16 → s < streams_of file → VisitedInside es v t s ⊎ VisitedOutside es v t s
  inside_or_outside t s early l = go (inside_in es v (16 * 64) t s) refl
    where
      go : (b : Bool) → inside_in es v (16 * 64) t s ≡ b → VisitedInside es v t s ⊎ VisitedOutside es v t s
      go true h = inl (all_inside_in t s early l h)
      go false h = inr (some_in (16 * 64) t s h)

-- ---- values that agree up to an instant have the same visits from it

module _ (file : List ℕ) {node : NodeValues} (e : verdict_of file ≡ accepted node) (v w : Streams) where
  abbrev Same : ℕ → Type 0
  Same t = (j r : ℕ) → j ≤ t → r < streams_of file → v j r ≡ w j r

  value_same : (t s : ℕ) (o : Option Visit) → Falls file (streams_of file) t s o → Same t → value_at v o ≡ value_at w o
  value_same t s None f same = refl
  value_same t s (Some o) f same = same o.instant o.stream (le_of_suc-le-suc f.early) f.within.1

  two_same : (t s : ℕ) → t < 16 → s < streams_of file → Same t → two (equation_at file) v t s ≡ two (equation_at file) w t s
  unfolding one two
  two_same t s early l same =
      ap (λ (x : ℤ). second_visit (equation_at file s) t (truth x)) (value_same t s (one (equation_at file) t s) (one_falls file e t s early l) same)

  pub visited_same : {t s j r : ℕ} → t < 16 → s < streams_of file → Same t → Visited (equation_at file) v t s j r → Visited (equation_at file) w t s j r
  visited_same early l same here = here
  visited_same {t} {s} early l same (by_one {i = i} {q = q} to p) =
      let d = one_lower file e v t s i q early l to in
      let sooner = d.instant in
      by_one to (visited_same (lt_of_le_of_lt sooner early) d.stream (λ j r m n. same j r (omega arith) n) p)
  visited_same {t} {s} early l same (by_two {i = i} {q = q} to p) =
      let d = two_lower file e v t s i q early l to in
      let sooner = d.instant in
      by_two (subst (λ (o : Option Visit). To o i q) (two_same t s early l same) to) (visited_same (lt_of_le_of_lt sooner early) d.stream (λ j r m n. same j r (omega arith) n) p)

  pub all_inside_same : (t s : ℕ) → t < 16 → s < streams_of file → Same t → VisitedInside (equation_at file) w t s → VisitedInside (equation_at file) v t s
  all_inside_same t s early l same all j r p =
      let d = within file e v early l p in
      ap inside (same j r d.0 d.1) ∙ all j r (visited_same early l same p)
