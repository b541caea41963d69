-- An equation's value rests on what it reads: `reads` names it, operator by operator, and nothing else matters.
-- Assumes nothing.
use mathlib.Core.Path.{◌≡◌, refl}
use mathlib.Core.Bool.{Bool, true, false, not, cond, ◌||◌, false≢true}
use mathlib.Core.List.{List, [], ◌∷◌}
use lib.IntN.{ℤ}
use Rattle.node.specs.declared.equation.Equation.{Equation}
use Rattle.node.specs.declared.equation.Equation.TheVariants.{Input, Constant, Not, And, Or, Same, Sum, Difference, Multiple, AtMost, Equal, If, Arrow, FollowedBy, Lesser, Greater}
use Rattle.node.specs.Reads.{Read, row_for, reads, All}
use Rattle.node.specs.Table.{row_of}
use Rattle.streams.specs.Meaning.{meaning}
use Rattle.streams.specs.Values.{Values}

pub all_map : {A : Type 0} {P Q : A → Type 0} → ((x : A) → P x → Q x) → (xs : List A) → All P xs → All Q xs
all_map f [] ps = tt
all_map f (x ∷ xs) ps = (f x ps.0, all_map f xs ps.1)

pub all_map₂ : {A : Type 0} {P Q R : A → Type 0} → ((x : A) → P x → Q x → R x) → (xs : List A) → All P xs → All Q xs → All R xs
all_map₂ f [] ps qs = tt
all_map₂ f (x ∷ xs) ps qs = (f x ps.0 qs.0, all_map₂ f xs ps.1 qs.1)

-- an operand's value: of this instant where it is needed now, else of the one before
abbrev pub found : (past present : Values) → Read → ℤ
found past present r = cond r.now (present r.stream) (past r.stream)

-- whether an operand is read at all: at instant 0 none is of the instant before
abbrev pub is_read : (first : Bool) → Read → Bool
is_read first r = r.now || not first

pub meaning_rests : (e : Equation) (g : ℤ) (f : Bool) (p v q w : Values) → All (λ r. is_read f r ≡ true → found p v r ≡ found q w r) (reads e) → meaning e g f p v ≡ meaning e g f q w
unfolding row_of row_for reads
meaning_rests Input g f p v q w h = refl
meaning_rests (Constant k) g f p v q w h = refl
meaning_rests (Not a) g f p v q w h = rw (h.0 refl)
meaning_rests (And a b) g f p v q w h = rw (h.0 refl, h.1.0 refl)
meaning_rests (Or a b) g f p v q w h = rw (h.0 refl, h.1.0 refl)
meaning_rests (Same a b) g f p v q w h = rw (h.0 refl, h.1.0 refl)
meaning_rests (Sum a b) g f p v q w h = rw (h.0 refl, h.1.0 refl)
meaning_rests (Difference a b) g f p v q w h = rw (h.0 refl, h.1.0 refl)
meaning_rests (Multiple k a) g f p v q w h = rw (h.0 refl)
meaning_rests (AtMost a b) g f p v q w h = rw (h.0 refl, h.1.0 refl)
meaning_rests (Equal a b) g f p v q w h = rw (h.0 refl, h.1.0 refl)
meaning_rests (If c a b) g f p v q w h = rw (h.0 refl, h.1.0 refl, h.1.1.0 refl)
meaning_rests (Arrow a b) g f p v q w h = rw (h.0 refl, h.1.0 refl)
meaning_rests (FollowedBy a b) g true p v q w h = h.0 refl
meaning_rests (FollowedBy a b) g false p v q w h = h.1.0 refl
meaning_rests (Lesser a b) g f p v q w h = rw (h.0 refl, h.1.0 refl)
meaning_rests (Greater a b) g f p v q w h = rw (h.0 refl, h.1.0 refl)

-- what holds of an operand that is read, in two assignments, from what holds of the values now and, past instant 0, of those before
pub by_read : (P : ℤ → ℤ → Type 0) (now first : Bool) (x y z u : ℤ) → (now ≡ true → P x z) → (first ≡ false → P y u) → (now || not first) ≡ true → P (cond now x y) (cond now z u)
by_read P true first x y z u h k e = h refl
by_read P false true x y z u h k e = absurd (false≢true e)
by_read P false false x y z u h k e = k refl
