-- The record after the turns of a turns file, one after another.
-- Assumes nothing.
use mathlib.Core.Path.{◌≡◌, ap}
use mathlib.Core.List.{List}
use Prim.Native.Nat.{ℕ, suc, ◌+◌, ◌-◌, ◌<◌, ◌≤◌}
use native.Mathlib.Omega.{arith}
use Rattle.numbers.specs.Numbers.{unsigned_at}
use Rattle.rules.specs.Turns.{turn_of, line_after}
use Rattle.rules.specs.Versions.{version2}
use Rattle.check_turns.specs.TurnsFile.{quotas_from}

module _ (node cert turns : List ℕ) where
  -- the record after the turns from quota i on, of so many numbers
  abbrev pub after : (line i count : ℕ) → ℕ
  after line i count = line_after version2 node cert line (quotas_from turns i (count - i))

  pub one_more : (line i count : ℕ) → i < count → after (turn_of version2 node cert line (unsigned_at turns i)).line (i + 1) count ≡ after line i count
  unfolding line_after quotas_from
  one_more line i count l =
      let some : count - i ≡ suc (count - (i + 1)) = omega arith in
      rw some (ap (λ (k : ℕ). line_after version2 node cert (turn_of version2 node cert line (unsigned_at turns i)).line (quotas_from turns k (count - (i + 1)))) (omega arith))

  pub no_more : (line i count : ℕ) → count ≤ i → line ≡ after line i count
  unfolding line_after quotas_from
  no_more line i count l =
      let none : count - i ≡ 0 = omega arith in
      rw none
