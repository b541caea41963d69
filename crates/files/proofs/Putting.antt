-- Bytes put at the start of a buffer, one after another.
-- Assumes nothing.
use mathlib.Core.Path.{◌≡◌, sym, subst}
use mathlib.Core.List.{List}
use Prim.Native.Nat.{ℕ, suc, ◌+◌, ◌<◌, ◌≤◌}
use native.Mathlib.Nat.{zero-add}
use native.Mathlib.Omega.{arith}
use lib.ListN.{length, get_or, drop, set}
use lib.Seq.{paste, paste-suc, length-paste, drop-paste, length-take-le}
use Rattle.std.specs.Counts.{IsPrefixLen}
use Rattle.files.specs.Put.{Put}

module _ (buffer bytes : List ℕ) (n : ℕ) where
  pub one_more : n < length buffer → n < length bytes → set (paste buffer 0 bytes n) n (get_or bytes n 0) ≡ paste buffer 0 bytes (suc n)
  one_more h l =
      let at : 0 + n ≡ n = zero-add n in
      subst (λ (k : ℕ). set (paste buffer 0 bytes n) k (get_or bytes n 0) ≡ paste buffer 0 bytes (suc n)) at
      (paste-suc buffer 0 bytes n 0 (omega (arith, at, h)) l)

module _ {bytes before after : List ℕ} {n : ℕ} (p : Put bytes before after n) where
  size : length (paste before 0 bytes n) ≡ length before
  size = length-paste before 0 bytes n (omega (arith, zero-add n, p.count)) (omega (arith, p.count))

  -- what was put is counted within the buffer ..
  pub put_counts : IsPrefixLen n after
  put_counts =
      let l : n ≤ length after = rw p.put (omega (arith, size, p.count)) in
      (l, sym (length-take-le n after l))

  -- .. and what stands after it is as it was
  pub rest_kept : drop n after ≡ drop n before
  rest_kept =
      rw p.put
      (subst (λ (k : ℕ). drop k (paste before 0 bytes n) ≡ drop k before) (zero-add n)
      (drop-paste before 0 bytes n (omega arith) (omega (arith, p.count))))
