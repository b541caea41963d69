-- How large the numbers are that a constant K or an operator gives a clause's constraint.
use Rattle.std.specs.Prelude.{◌≤◌, ◌≡◌, pos, nat_abs}
use Rattle.constraints.specs.Linear.{coefficient}
use Rattle.rules.specs.declared.pattern.Linear.{Linear}
use Rattle.rules.specs.declared.pattern.Pattern.{Pattern}
use Rattle.rules.specs.declared.pattern.Pattern.TheVariants.{Yes, No, Most}
use Rattle.rules.specs.Clauses.{bounded_of}

-- a constraint that may be multiplied: by what its first variable shows, or where that is dropped by what the bound shows
pub record Small (d : Linear) : Type 0 where
  pub a : nat_abs d.a ≤ 1
  pub b : nat_abs d.b ≤ 1000000000
  pub c : nat_abs d.c ≤ 1
  pub bound : nat_abs d.bound ≤ 1000000000
  pub dropped : coefficient (bounded_of d).form d.x ≡ pos 0 → (nat_abs d.b ≤ 1) × (nat_abs d.bound ≤ 1)

abbrev pub SmallPattern : Pattern → Type 0
SmallPattern (Yes x) = Unit {0}
SmallPattern (No x) = Unit {0}
SmallPattern (Most d) = Small d
