-- What rules 11 to 16 give a line of kind 4 or 5: it may be checked.
-- Assumes nothing.
use mathlib.Core.Path.{◌≡◌}
use mathlib.Core.List.{List}
use mathlib.Core.Bool.{true}
use Prim.Native.Nat.{ℕ, ◌+◌, ◌≤◌, ◌<◌}
use native.Mathlib.Omega.{arith}
use lib.ListN.{length}
use Rattle.constraints.specs.Layout.{trailer_of, start_of, constraint_of, line_head_at, literal_at}
use Rattle.constraints.specs.Ready.{Ready}
use Rattle.constraints.specs.Rules.{Types}
use Rattle.literals.specs.Literals.{atom_of, constraint_number}
use Rattle.rules.specs.Literals.{names_atom}
use Rattle.rules.proofs.ConstraintLimits.{Few, limited, names_constraint}
use Rattle.arithmetic.specs.Checkable.{Checkable}

-- a line within a file that passes rules 11 to 15, whose count and literals pass rule 16
pub checkable : (types : Types) → Few types → (s : List ℕ) → Ready types s → (at : ℕ) → at + 80 ≤ length s
    → (line_head_at s at).count ≤ 12
    → ((j : ℕ) → j < (line_head_at s at).count → names_atom types (trailer_of s).depth (trailer_of s).constraints (atom_of (literal_at s at j)) ≡ true)
    → Checkable s (start_of s) at
checkable types few s ready at room count literals =
    record {
      room = room;
      few = count;
      constraints =
          λ j l on.
          let i = constraint_number (atom_of (literal_at s at j)) in
          let below : i < (trailer_of s).constraints =
          names_constraint types (trailer_of s).depth (trailer_of s).constraints (atom_of (literal_at s at j)) (literals j l) on in
          record {
            room = omega (arith, ready.room, below);
            limited = limited types few (trailer_of s).depth ready.deep (constraint_of s i) (ready.constraints i below);
          };
    }
