-- All of a part of a file are zero where each of its bytes is.
-- Assumes nothing.
use mathlib.Core.Path.{◌≡◌, refl, sym, ◌∙◌, ap, ap₂}
use mathlib.Core.List.{List}
use Prim.Native.Nat.{ℕ, zero, suc, ◌+◌, ◌-◌, ◌<◌, ◌≤◌}
use native.Mathlib.Numerals.{add-one}
use native.Mathlib.Omega.{arith}
use lib.Dec.{eqb}
use lib.ListN.{length, take, drop, length-drop}
use Rattle.std.specs.List.{list_all}
use Rattle.std.proofs.lemmas.List.{get_or-drop}
use Rattle.std.proofs.lemmas.List.Folds.{list_all_more}
use Rattle.answers.specs.Checks.{every}
use Rattle.fields.specs.Fields.{zeros_at}

module _ (s : List ℕ) (start : ℕ) where
  pub zeros_is : (n : ℕ) → start + n ≤ length s → list_all (λ b. eqb b 0) (take n (drop start s)) ≡ zeros_at s start n
  unfolding every
  zeros_is zero h = refl
  zeros_is (suc n) h =
      let within : n < length (drop start s) = rw (length-drop start s) (omega (arith, h)) in
      ap (λ (m : ℕ). list_all (λ (b : ℕ). eqb b 0) (take m (drop start s))) (sym (add-one n))
      ∙ list_all_more (λ (b : ℕ). eqb b 0) (drop start s) n 0 within
      ∙ rw (zeros_is n (omega (arith, h)), get_or-drop start s n 0)

  -- the same of a part whose start is given otherwise
  pub zeros_from : (n : ℕ) {from : ℕ} → from ≡ start → start + n ≤ length s → list_all (λ b. eqb b 0) (take (start + n - from) (drop from s)) ≡ zeros_at s start n
  zeros_from n {from} e h =
      let many : start + n - from ≡ n = omega (arith, e) in
      ap₂ (λ (k m : ℕ). list_all (λ (b : ℕ). eqb b 0) (take k (drop m s))) many e ∙ zeros_is n h
