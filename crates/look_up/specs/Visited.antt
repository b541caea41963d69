-- The visited values of an assignment, and whether one "leaves the range".
use Rattle.std.specs.Prelude.{ℕ, zero, suc, ◌≡◌, Bool, true, false, ◌&&◌, None, Option, Some}
use Rattle.integers.specs.Range.{inside}
use Rattle.node.specs.declared.equation.Equation.{Equation}
use Rattle.streams.specs.Solutions.{Streams}
use Rattle.streams.specs.Values.{truth}
use Rattle.look_up.specs.declared.visits.Visit.{Visit}
use Rattle.look_up.specs.Visits.{first_visit, second_visit, To, value_at}

-- an equation a stream
abbrev pub Equations : Type 0
Equations = ℕ → Equation

-- what stream s visits at instant t
unfoldable pub one : Equations → (t s : ℕ) → Option Visit
one es t s = first_visit (es s) t

unfoldable pub two : Equations → Streams → (t s : ℕ) → Option Visit
two es v t s = second_visit (es s) t (truth (value_at v (one es t s)))

-- stream r at instant j is visited from stream s at instant t
pub data Visited (es : Equations) (v : Streams) : (t s j r : ℕ) → Type 0 where
  here : {t s : ℕ} → Visited es v t s t s
  by_one : {t s i q j r : ℕ} → To (one es t s) i q → Visited es v i q j r → Visited es v t s j r
  by_two : {t s i q j r : ℕ} → To (two es v t s) i q → Visited es v i q j r → Visited es v t s j r

-- no value so visited leaves the range
abbrev pub VisitedInside : Equations → Streams → (t s : ℕ) → Type 0
VisitedInside es v t s = (j r : ℕ) → Visited es v t s j r → inside (v j r) ≡ true

-- "a value so visited leaves the range"
pub record VisitedOutside (es : Equations) (v : Streams) (t s : ℕ) : Type 0 where
  pub instant : ℕ
  pub stream : ℕ
  pub visited : Visited es v t s instant stream
  pub leaves : inside (v instant stream) ≡ false

-- The first as a test: what is visited in at most k steps is inside. That it is the same from 16 · 64 steps on, and where it fails
-- some value leaves the range, is a theorem (proofs/Within.antt).
abbrev pub of_visit : Option Visit → (test : ℕ → ℕ → Bool) → Bool
of_visit None test = true
of_visit (Some visit) test = test visit.instant visit.stream

unfoldable pub inside_in : Equations → Streams → (k t s : ℕ) → Bool
inside_in es v zero t s = inside (v t s)
inside_in es v (suc k) t s =
    inside (v t s)
    && (of_visit (one es t s) (λ j r. inside_in es v k j r)
    && of_visit (two es v t s) (λ j r. inside_in es v k j r))
