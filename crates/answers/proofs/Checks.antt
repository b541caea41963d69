-- What follows from an answer that is put together of tests in a row: whatever holds of each refusal, where its test
-- failed, and of the rest, where it passed, holds of the answer.
-- Assumes nothing.
use mathlib.Core.Path.{◌≡◌, refl, sym, ap}
use mathlib.Core.Bool.{Bool, true, false}
use Prim.Native.Nat.{ℕ}
use Rattle.answers.specs.declared.Place.{Place}
use Rattle.answers.specs.Answer.{Answer, refused}
use Rattle.answers.specs.Checks.{check, check_all}
use Rattle.std.specs.Prelude.{None, Option, Some, Ok, Err, IsErr, IsErrAnd, OnOk}
use Rattle.answers.specs.declared.Refusal.{Refusal}

abbrev refusal : ℕ → Place → Refusal
refusal number place = record { number = number; place = place }

module _ {A : Type 0} (P : Answer A → Type 0) where
  pub by_check : (b : Bool) (number : ℕ) (place : Place) (rest : Answer A) → (b ≡ false → P (refused number place)) → (b ≡ true → P rest) → P (check b number place rest)
  by_check true number place rest f g = g refl
  by_check false number place rest f g = f refl

  pub by_check_all : (found : Option ℕ) (number : ℕ) (place : ℕ → Place) (rest : Answer A) → ((i : ℕ) → found ≡ Some i → P (refused number (place i))) → (found ≡ None → P rest) → P (check_all found number place rest)
  by_check_all (Some i) number place rest f g = f i refl
  by_check_all None number place rest f g = g refl

-- what `?` hands on of a refusal
abbrev pub HandsOn : {A : Type 0} → Refusal → Answer A → Type 0
HandsOn e whole = IsErr whole × IsErrAnd whole (λ f. f ≡ e)

pub handed_on : {A : Type 0} {e : Refusal} (whole : Answer A) → HandsOn e whole → whole ≡ Err e
handed_on (Ok a) h = absurd h.1
handed_on (Err f) h = ap Err h.1

-- A check by itself, as code makes it with `?` before it goes on. Where it is refused, so is the whole.
module _ {A : Type 0} (rest : Answer A) {r : Answer (Unit {0})} {e : Refusal} where
  pub check_stopped : (made ok : Bool) (number : ℕ) (place : Place) → made ≡ ok → r ≡ check made number place (Ok tt) → r ≡ Err e → ◌≡◌ {A = Answer A} (Err e) (check ok number place rest)
  check_stopped true ok number place same is stops = cc
  check_stopped false ok number place same is stops =
      let refused_so : refusal number place ≡ e = cc in rw (sym same) (ap Err (sym refused_so))

  pub all_stopped : (made found : Option ℕ) (number : ℕ) (place : ℕ → Place) → made ≡ found → r ≡ check_all made number place (Ok tt) → r ≡ Err e → ◌≡◌ {A = Answer A} (Err e) (check_all found number place rest)
  all_stopped None found number place same is stops = cc
  all_stopped (Some i) found number place same is stops =
      let refused_so : refusal number (place i) ≡ e = cc in rw (sym same) (ap Err (sym refused_so))

-- Where it passes, its test held.
module _ {r : Answer (Unit {0})} {x : Unit {0}} where
  pub check_passed : (made ok : Bool) (number : ℕ) (place : Place) → made ≡ ok → r ≡ check made number place (Ok tt) → r ≡ Ok x → ok ≡ true
  check_passed true ok number place same is passes = sym same
  check_passed false ok number place same is passes = cc

  pub all_passed : (made found : Option ℕ) (number : ℕ) (place : ℕ → Place) → made ≡ found → r ≡ check_all made number place (Ok tt) → r ≡ Ok x → found ≡ None
  all_passed None found number place same is passes = sym same
  all_passed (Some i) found number place same is passes = cc

-- What holds where a test passes holds on an answer that is checked by it.
pub on_pass : {P : Type 0} {r : Answer (Unit {0})} (ok : Bool) (number : ℕ) (place : Place) → r ≡ check ok number place (Ok tt) → (ok ≡ true → P) → OnOk r P
on_pass true number place is f = rw is (f refl)
on_pass false number place is f = rw is tt
