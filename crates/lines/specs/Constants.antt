-- What rule 5 leaves of a node's constants.
use Rattle.std.specs.Prelude.{ℕ, ◌<◌, ◌≤◌, List, nat_abs}
use Rattle.node.specs.Equations.{equation_at, constant_of}

-- the constants of the first n streams are within the limit of K
abbrev pub ConstantsLimited : List ℕ → (n : ℕ) → Type 0
ConstantsLimited node n = (p : ℕ) → p < n → nat_abs (constant_of (equation_at node p)) ≤ 1000000000
