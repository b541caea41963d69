-- A line's fault as an answer: rule 16 comes first.
-- Assumes nothing.
use mathlib.Core.Path.{◌≡◌, refl}
use mathlib.Core.Bool.{Bool, true, false}
use mathlib.Core.List.{List}
use Prim.Native.Nat.{ℕ}
use Rattle.answers.specs.declared.Place.TheVariants.{Line}
use Rattle.answers.specs.Checks.{check}
use Rattle.rules.specs.Lines.{unless}
use Rattle.rules.specs.Verdict.{shape_passes, own_fault, line_fault}
use Rattle.rules.specs.Versions.{version2}
use Rattle.lines.specs.Faults.{fault_at}

pub shape_first : (node cert : List ℕ) (i : ℕ) → check (shape_passes node cert i) 16 (Line i) (fault_at i (own_fault version2 node cert i)) ≡ fault_at i (line_fault version2 node cert i)
unfolding line_fault
shape_first node cert i = go (shape_passes node cert i) (own_fault version2 node cert i)
  where
    go : (ok : Bool) (own : ℕ) → check ok 16 (Line i) (fault_at i own) ≡ fault_at i (unless ok 16 own)
    go true own = refl
    go false own = refl
