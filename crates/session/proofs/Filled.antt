-- Lists that are filled up: their start, and how a copy over the start of others is one.
-- Assumes nothing.
use mathlib.Core.Path.{◌≡◌, sym, ◌∙◌, ap}
use mathlib.Core.List.{List, ◌++◌}
use Prim.Native.Nat.{ℕ, zero, suc, ◌-◌, ◌≤◌}
use native.Mathlib.Nat.{sub-zero, zero-sub, suc-sub-suc}
use lib.ListN.{length, take, drop, replicate}
use lib.Seq.{take_at, take_all}
use Rattle.streams.specs.Instant.{filled}

module _ {A : Type 0} where
  pub start_of_filled : (m n : ℕ) (z : A) (l : List A) → length l ≡ n → take n (filled m z l) ≡ l
  start_of_filled m n z l e = take_at l (replicate (m - length l) z) n e

  drop_replicate : (n i : ℕ) (z : A) → drop i (replicate n z) ≡ replicate (n - i) z
  drop_replicate n zero z = ap (λ (k : ℕ). replicate k z) (sym (sub-zero n))
  drop_replicate zero (suc i) z = ap (λ (k : ℕ). replicate k z) (sym (zero-sub (suc i)))
  drop_replicate (suc n) (suc i) z = drop_replicate n i z ∙ ap (λ (k : ℕ). replicate k z) (sym (suc-sub-suc n i))

  -- what is copied over the start of n of z is filled up with it
  pub copied : (n : ℕ) (z : A) (l copy : List A) (m : ℕ) → length l ≤ m → copy ≡ take m l → copy ++ drop (length (take m l)) (replicate n z) ≡ filled n z l
  copied n z l copy m few e = rw (e, take_all m l few, drop_replicate n (length l) z)
