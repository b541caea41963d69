-- No two answers have the same numbers: the place's is 0 where the answer is accepted, and else tells the place with its index.
-- Assumes nothing.
use mathlib.Core.Path.{◌≡◌, refl, sym, ◌∙◌, ap, ap₂}
use mathlib.Core.List.{[], ◌∷◌}
use Prim.Native.Nat.{ℕ}
use native.Mathlib.Omega.{arith}
use lib.IntN.{ℤ}
use lib.ListN.{get_or}
use Rattle.answers.specs.declared.Place.{Place}
use Rattle.answers.specs.declared.Place.TheVariants.{File, Record, Constraint, Line, Base, Step}
use Rattle.answers.specs.Answer.{Answer, accepted, refused, TurnAnswer, final, unfinished}
use Rattle.answers.specs.declared.NodeValues.{NodeValues}
use Rattle.answers.specs.declared.CertificateValues.{CertificateValues}
use Rattle.capi.specs.declared.told.Told.{Told}
use Rattle.capi.specs.declared.look_ups.ToldLookUp.{ToldLookUp}
use Rattle.capi.specs.Answers.{place_number, place_index, told_accepted, told_of, told_refused, told_node, told_certificate, told_plain, told_unfinished, told_answer, told_look_up}
use Rattle.capi.specs.Theorems.{Tells, NumbersTell}
use Rattle.std.specs.Prelude.{Err, Ok}

-- the place that a number and an index tell
place_at : (number index : ℕ) → Place
place_at number index = get_or (File ∷ File ∷ Record index ∷ Constraint index ∷ Line index ∷ Base ∷ Step ∷ []) number File

place_at_is : (p : Place) → place_at (place_number p) (place_index p) ≡ p
unfolding place_at
place_at_is File = refl
place_at_is (Record i) = refl
place_at_is (Constraint i) = refl
place_at_is (Line i) = refl
place_at_is Base = refl
place_at_is Step = refl

place_is_some : (p : Place) → place_number p ≡ 0 → ⊥
place_is_some File e = omega arith
place_is_some (Record i) e = omega arith
place_is_some (Constraint i) e = omega arith
place_is_some (Line i) e = omega arith
place_is_some Base e = omega arith
place_is_some Step e = omega arith

refusal_tells : (n m : ℕ) (p q : Place) → told_refused n p ≡ told_refused m q → (n ≡ m) × (p ≡ q)
refusal_tells n m p q e =
    (ap (λ (t : Told). t.number) e, sym (place_at_is p) ∙ ap (λ (t : Told). place_at t.place t.index) e ∙ place_at_is q)

module _ {A : Type 0} (values : A → Told) (no_place : (a : A) → (values a).place ≡ 0) (same : (a b : A) → values a ≡ values b → a ≡ b) where
  apart : (a : A) (n : ℕ) (p : Place) → values a ≡ told_refused n p → ⊥
  apart a n p e = place_is_some p (sym (ap (λ (t : Told). t.place) e) ∙ no_place a)

  tells : Tells (told_of values)
  tells (Ok a) (Ok b) e = ap accepted (same a b e)
  tells (Ok a) (Err r) e = absurd (apart a r.number r.place e)
  tells (Err r) (Ok b) e = absurd (apart b r.number r.place (sym e))
  tells (Err r) (Err s) e = let s = refusal_tells r.number s.number r.place s.place e in ap₂ refused s.0 s.1

-- a final answer is accepted, and 0, or has a place; 256 has none
apart_unfinished : (a : Answer CertificateValues) → told_certificate a ≡ told_unfinished → ⊥
unfolding told_certificate
apart_unfinished (Ok v) e = let z : ◌≡◌ {A = ℕ} 0 256 = ap (λ (t : Told). t.number) e in omega arith
apart_unfinished (Err r) e = place_is_some r.place (ap (λ (t : Told). t.place) e)

turn_tells : Tells told_certificate → (a b : TurnAnswer) → told_answer a ≡ told_answer b → a ≡ b
unfolding told_answer
turn_tells same (final a) (final b) e = ap final (same a b e)
turn_tells same (final a) unfinished e = absurd (apart_unfinished a e)
turn_tells same unfinished (final b) e = absurd (apart_unfinished b (sym e))
turn_tells same unfinished unfinished e = refl

certificate_tells : Tells told_certificate
unfolding told_certificate
certificate_tells =
    tells (λ (v : CertificateValues). told_accepted v.depth v.base v.step) (λ _. refl) (λ a b e i. record { depth = (e i).first; base = (e i).second; step = (e i).third })

-- the value beside the answer tells an accepted look_up's
look_up_tells : (a b : Answer ℤ) → told_look_up a ≡ told_look_up b → a ≡ b
unfolding told_look_up
look_up_tells (Ok x) (Ok y) e = ap accepted (ap (λ (t : ToldLookUp). t.value) e)
look_up_tells (Ok x) (Err r) e = absurd (place_is_some r.place (sym (ap (λ (t : ToldLookUp). t.answer.place) e)))
look_up_tells (Err r) (Ok y) e = absurd (place_is_some r.place (ap (λ (t : ToldLookUp). t.answer.place) e))
look_up_tells (Err r) (Err s) e = let s = refusal_tells r.number s.number r.place s.place (ap (λ (t : ToldLookUp). t.answer) e) in ap₂ refused s.0 s.1

pub numbers_tell : NumbersTell
unfolding told_node told_plain
numbers_tell =
    record {
      node = tells (λ (v : NodeValues). told_accepted v.streams v.property 0) (λ _. refl) (λ a b e i. record { streams = (e i).first; property = (e i).second });
      certificate = certificate_tells;
      turn = turn_tells certificate_tells;
      plain = tells (λ (_ : Unit {0}). told_accepted 0 0 0) (λ _. refl) (λ a b e. refl);
      look_up = look_up_tells;
    }
