-- The clauses of operator 1 by the constant's sign.
-- Assumes nothing.
use mathlib.Core.Path.{◌≡◌, refl, ap}
use mathlib.Core.List.{[], ◌∷◌}
use mathlib.Core.Bool.{Bool, cond}
use Prim.Native.Nat.{ℕ}
use lib.IntN.{ℤ, pos}
use lib.Signed.{le_z}
use Rattle.node.specs.declared.equation.StreamType.{StreamType}
use Rattle.node.specs.declared.equation.StreamType.TheVariants.{Bool as BoolType, Int as IntType}
use Rattle.node.specs.declared.equation.Equation.TheVariants.{Constant}
use Rattle.rules.specs.declared.pattern.Pattern.TheVariants.{Yes, No}
use Rattle.rules.specs.declared.pattern.Position.{Position}
use Rattle.rules.specs.Clauses.{clause1, clauses}
use Rattle.rules.specs.Versions.{version2}
use Rattle.clauses.specs.Operators.{over}

-- a bool's constant
pub constant_case : (k : ℤ) (t : Bool) (s : ℕ) → le_z k (pos 0) ≡ t → over BoolType (Constant k) s ≡ clause1 (cond t (No s) (Yes s)) ∷ []
constant_case k t s e = ap (λ (u : Bool). clause1 (cond u (No s) (Yes s)) ∷ []) e

-- a constant's clauses are the same at every place
pub constant_anywhere : (ty : StreamType) (k : ℤ) (place : Position) (now back : ℕ → ℕ) (s : ℕ) → over ty (Constant k) s ≡ clauses version2 ty (Constant k) place now back s
constant_anywhere BoolType k place now back s = refl
constant_anywhere IntType k place now back s = refl
