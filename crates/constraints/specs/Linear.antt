-- Linear forms over the int streams of a window, and constraints on them: "sum of coefficient times value is at most bound".
use Rattle.std.specs.Prelude.{ℕ, zero, suc, ◌+◌, ◌*◌, List, [], ◌∷◌, Bool, true, cond, ◌&&◌, eqb, ℤ, pos, neg_ℤ, ◌+ℤ◌, ◌-ℤ◌, ◌*ℤ◌}
use Rattle.std.specs.Int.Signed.{le_z}
use Rattle.constraints.specs.declared.layout.Term.{Term}
use Rattle.constraints.specs.Layout.{Constraint, used_in}

-- a stream at an offset, as one number; the atom of a bool stream
abbrev pub variable : (offset stream : ℕ) → ℕ
variable offset stream = 64 * offset + stream

pub record Monomial : Type 0 where
  pub of : ℕ
  pub times : ℤ

abbrev pub Form : Type 0
Form = List Monomial

-- the sum at each variable: "equal variables summed"
abbrev pub coefficient : Form → ℕ → ℤ
coefficient [] x = pos 0
coefficient (m ∷ ms) x = cond (eqb m.of x) (m.times +ℤ coefficient ms x) (coefficient ms x)

-- the form's value, where each variable has a value
abbrev pub total : Form → (ℕ → ℤ) → ℤ
total [] w = pos 0
total (m ∷ ms) w = m.times *ℤ w m.of +ℤ total ms w

abbrev pub scaled : ℤ → Form → Form
scaled z [] = []
scaled z (m ∷ ms) = record { of = m.of; times = z *ℤ m.times } ∷ scaled z ms

-- a form is at most a bound
pub record Bounded : Type 0 where
  pub form : Form
  pub bound : ℤ

-- "The negation of "sum at most B" is "minus sum at most −B − 1"."
abbrev pub negated : Bounded → Bounded
negated c = record { form = scaled (neg_ℤ (pos 1)) c.form; bound = neg_ℤ c.bound -ℤ pos 1 }

-- the used terms of a written constraint
abbrev pub monomial : Term → Monomial
monomial t = record { of = variable t.offset t.stream; times = t.coefficient }

unfoldable pub written : Constraint → (count : ℕ) → Form
written c zero = []
written c (suc j) = monomial (c.term j) ∷ written c j

abbrev pub bounded_of : Constraint → Bounded
bounded_of c = record { form = written c (used_in c); bound = c.head.bound }

-- the same whole number
abbrev pub same_z : ℤ → ℤ → Bool
same_z a b = le_z a b && le_z b a

-- two forms have the same coefficient at each variable of a list
unfoldable pub agree_at : Form → Form → Form → Bool
agree_at f g [] = true
agree_at f g (m ∷ ms) = agree_at f g ms && same_z (coefficient f m.of) (coefficient g m.of)

-- "compared by content": the same bound, and the same coefficient at each variable of either
unfoldable pub same_content : Bounded → Bounded → Bool
same_content c d =
    same_z c.bound d.bound && agree_at c.form d.form c.form && agree_at c.form d.form d.form
