-- Rule 16 in the order in which the code tests it: the count first, then the listed literals and multipliers, then the rest.
-- Assumes nothing.
use mathlib.Core.Path.{◌≡◌, refl, sym, ◌∙◌}
use mathlib.Core.Bool.{Bool, true, false, ◌&&◌, and-true, and-false}
use Prim.Native.Nat.{ℕ, ◌<◌, ◌≤◌}
use native.Mathlib.Omega.{arith}
use borrow.Author.Tests.{ltb-true, ltb-false, lt-ltb, le-ltb, le-leb, lt-leb}
use lib.Dec.{leb, ltb}
use Rattle.answers.specs.Checks.{every}
use Rattle.answers.proofs.Every.{every_all, every_of}
use Rattle.answers.proofs.Tests.{both_true, same_test}
use Rattle.constraints.specs.declared.layout.LineHead.{LineHead}
use Rattle.constraints.specs.Layout.{Line}
use Rattle.constraints.specs.Rules.{Types}
use Rattle.rules.specs.Lines.{slot_ok, numbers_ok, shape_ok}
use Rattle.lines.specs.Slots.{listed_ok, unused_ok}

module _ (types : Types) (k m kind count : ℕ) (literal multiplier : ℕ → ℕ) where
  abbrev slot : ℕ → Bool
  slot = slot_ok types k m kind count literal multiplier

  abbrev listed : ℕ → Bool
  listed = listed_ok types k m kind literal multiplier

  abbrev unused : ℕ → Bool
  unused = unused_ok count literal multiplier

  slot_listed : (j : ℕ) → j < count → slot j ≡ listed j
  unfolding slot_ok listed_ok
  slot_listed j l = rw (lt-leb count j l)

  slot_unused : (j : ℕ) → count ≤ j → slot j ≡ unused j
  unfolding slot_ok unused_ok
  slot_unused j h = rw (le-leb count j h, le-ltb j count h)

  unused_listed : (j : ℕ) → j < count → unused j ≡ true
  unfolding unused_ok
  unused_listed j l = rw (lt-ltb j count l)

  slot_by : every listed count ≡ true → (j : ℕ) → unused j ≡ true → (t : Bool) → ltb j count ≡ t → slot j ≡ true
  slot_by all j e true f =
      let l = ltb-true j count f in
      slot_listed j l ∙ every_all listed count all j l
  slot_by all j e false f = slot_unused j (ltb-false j count f) ∙ e

  unused_by : (j : ℕ) → slot j ≡ true → (t : Bool) → ltb j count ≡ t → unused j ≡ true
  unused_by j e true f = unused_listed j (ltb-true j count f)
  unused_by j e false f = sym (slot_unused j (ltb-false j count f)) ∙ e

  halves : count ≤ 12 → (every listed count && every unused 12) ≡ every slot 12
  halves few =
      same_test (every listed count && every unused 12) (every slot 12)
      (λ e.
      let both = both_true (every listed count) (every unused 12) e in
      every_of slot 12 (λ j l. slot_by both.0 j (every_all unused 12 both.1 j l) (ltb j count) refl))
      (λ e.
      rw (
        every_of listed count (λ j l. sym (slot_listed j l) ∙ every_all slot 12 e j (omega arith)),
        every_of unused 12 (λ j l. unused_by j (every_all slot 12 e j l) (ltb j count) refl),
      ))

  pub slots_missed : count ≤ 12 → every listed count ≡ false → false ≡ every slot 12
  slots_missed few e = sym (sym (halves few) ∙ rw e)

  pub slots_rest : count ≤ 12 → every listed count ≡ true → every unused 12 ≡ every slot 12
  slots_rest few e =
      let both : every unused 12 ≡ (every listed count && every unused 12) = rw e in
      both ∙ halves few

module _ (types : Types) (k m : ℕ) (line : Line) where
  abbrev h : LineHead
  h = line.head

  pub shape_many : 12 < h.count → false ≡ shape_ok types k m line
  unfolding shape_ok
  shape_many l = rw (lt-leb h.count 12 l, and-false (leb 1 h.kind && leb h.kind 5))

  abbrev numbers : Bool
  numbers = leb 1 h.kind && leb h.kind 5 && numbers_ok h

  abbrev slots : Bool
  slots = every (slot_ok types k m h.kind h.count line.literal line.multiplier) 12

  few_is : h.count ≤ 12 → (numbers && slots) ≡ shape_ok types k m line
  unfolding shape_ok
  few_is l = rw (le-leb h.count 12 l, and-true (leb 1 h.kind && leb h.kind 5))

  pub shape_missed : h.count ≤ 12 → numbers ≡ false → false ≡ shape_ok types k m line
  shape_missed l f = sym (sym (few_is l) ∙ rw f)

  pub shape_rest : h.count ≤ 12 → numbers ≡ true → slots ≡ shape_ok types k m line
  shape_rest l t =
      let both : slots ≡ (numbers && slots) = rw t in
      both ∙ few_is l
