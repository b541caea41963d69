-- The two halves of rule 16's test of a line's literals and multipliers: those that are listed, and those that are not.
use Rattle.std.specs.Prelude.{ℕ, Bool, ◌&&◌, ◌||◌, ltb, eqb}
use Rattle.constraints.specs.Rules.{Types}
use Rattle.literals.specs.Literals.{atom_of}
use Rattle.rules.specs.Literals.{names_atom}
use Rattle.rules.specs.Lines.{multiplier_ok}

-- a listed literal names an atom and has a multiplier of its line's kind
unfoldable pub listed_ok : Types → (k m kind : ℕ) → (literal multiplier : ℕ → ℕ) → (j : ℕ) → Bool
listed_ok types k m kind literal multiplier j =
    names_atom types k m (atom_of (literal j)) && multiplier_ok kind (multiplier j)

-- it is listed, or literal and multiplier are zero
unfoldable pub unused_ok : (count : ℕ) → (literal multiplier : ℕ → ℕ) → (j : ℕ) → Bool
unused_ok count literal multiplier j = ltb j count || (eqb (literal j) 0 && eqb (multiplier j) 0)
