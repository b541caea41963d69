-- An operator's clauses where its operands are variables already, and so neither offset nor place matters.
use Rattle.std.specs.Prelude.{ℕ, List}
use Rattle.node.specs.declared.equation.StreamType.{StreamType}
use Rattle.node.specs.declared.equation.Equation.{Equation}
use Rattle.rules.specs.declared.pattern.Clause.{Clause}
use Rattle.rules.specs.declared.pattern.Position.TheVariants.{Inner}
use Rattle.rules.specs.Clauses.{clauses}
use Rattle.rules.specs.Versions.{version2}

abbrev pub over : StreamType → Equation → (s : ℕ) → List Clause
over ty e s = clauses version2 ty e Inner (λ x. x) (λ x. x) s
