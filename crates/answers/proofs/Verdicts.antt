-- An answer as the paper gives it leaves one value of the code's type.
-- Assumes nothing.
use mathlib.Core.Path.{◌≡◌, refl, ap, ap₂}
use Prim.Native.Nat.{ℕ}
use Rattle.answers.specs.declared.Place.{Place}
use Rattle.answers.specs.Answer.{Answer, TurnAnswer, final, unfinished, refused, in_numbers, turn_in_numbers}
use Rattle.std.specs.Prelude.{Ok, Err}

pub answer_tells : {A : Type 0} (v w : Answer A) → in_numbers v ≡ in_numbers w → v ≡ w
answer_tells (Ok a) (Ok b) e = ap Ok cc
answer_tells (Ok a) (Err s) e = cc
answer_tells (Err r) (Ok b) e = cc
answer_tells (Err r) (Err s) e =
    let same : ◌≡◌ {A = ℕ × Place} (r.number, r.place) (s.number, s.place) = cc in
    ap (λ (p : ℕ × Place). refused p.0 p.1) same

pub turn_answer_tells : (v w : TurnAnswer) → turn_in_numbers v ≡ turn_in_numbers w → v ≡ w
turn_answer_tells (final v) (final w) e = ap final (answer_tells v w cc)
turn_answer_tells (final v) unfinished e = cc
turn_answer_tells unfinished (final w) e = cc
turn_answer_tells unfinished unfinished e = refl
