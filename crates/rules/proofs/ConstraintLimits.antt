-- Rule 15 keeps a constraint within its limits, and rule 16 has a literal on a constraint name one of the file's.
-- Assumes nothing.
use mathlib.Core.Path.{◌≡◌}
use mathlib.Core.Bool.{true, not, ◌&&◌, ◌||◌}
use Prim.Native.Nat.{ℕ, ◌-◌, ◌≤◌, ◌<◌}
use native.Mathlib.Omega.{arith}
use borrow.Author.Tests.{leb-true, ltb-true, lt-leb, eqb-true}
use lib.Dec.{leb, eqb}
use lib.IntN.{ℤ, pos, neg_ℤ, nat_abs}
use Rattle.std.proofs.lemmas.Int.{ints}
use Rattle.answers.specs.Checks.{every}
use Rattle.answers.proofs.Every.{every_all}
use Rattle.answers.proofs.Tests.{both_true}
use Rattle.constraints.specs.declared.layout.Term.{Term}
use Rattle.constraints.specs.Layout.{Constraint, used_in}
use Rattle.constraints.specs.Linear.{variable}
use Rattle.constraints.specs.Rules.{Types, between, bound_limit, coefficient_limit, used_ok, rises, term_ok, constraint_ok}
use Rattle.constraints.proofs.Blocks.{used_is}
use Rattle.literals.specs.Literals.{is_constraint, constraint_number}
use Rattle.rules.specs.Literals.{names_atom}
use Rattle.rules.specs.Limited.{Limited}

-- a number between two limits of one magnitude
between_abs : (n : ℕ) (z : ℤ) → between (neg_ℤ (pos n)) z (pos n) ≡ true → nat_abs z ≤ n
between_abs n z e = grind (arith, ints)

-- int streams are among the first 64
abbrev pub Few : Types → Type 0
Few types = (x : ℕ) → types x ≡ 1 → x < 64

-- a used term
module _ (types : Types) (few : Few types) (k : ℕ) (deep : k ≤ 8) (t : Term) (e : used_ok types k t ≡ true) where
  used : (variable t.offset t.stream < 576) × (nat_abs t.coefficient ≤ 1000000000)
  unfolding used_ok
  used =
      let its_type = eqb (types t.stream) 1 in
      let low = leb t.offset k in
      let limit = between (neg_ℤ coefficient_limit) t.coefficient coefficient_limit in
      let all = both_true (its_type && low && eqb t.zero 0 && limit) (not (between (pos 0) t.coefficient (pos 0))) e in
      let first = both_true (its_type && low && eqb t.zero 0) limit all.0 in
      let second = both_true (its_type && low) (eqb t.zero 0) first.0 in
      let third = both_true its_type low second.0 in
      let stream = few t.stream (eqb-true (types t.stream) 1 third.0) in
      let offset = leb-true t.offset k third.1 in
      (omega (arith, stream, offset), between_abs 1000000000 t.coefficient first.1)

is_used : (types : Types) (k count : ℕ) (term : ℕ → Term) (j : ℕ) → j < count → term_ok types k count term j ≡ true → used_ok types k (term j) ≡ true
unfolding term_ok
is_used types k count term j l e =
    (both_true (used_ok types k (term j)) (eqb j 0 || rises (term (j - 1)) (term j)) (rw (lt-leb count j l) at e)).0

-- rule 15 keeps the limits
pub limited : (types : Types) → Few types → (k : ℕ) → k ≤ 8 → (c : Constraint) → constraint_ok types k c ≡ true → Limited c
unfolding constraint_ok
limited types few k deep c e =
    let count = c.head.count in
    let bound = between (neg_ℤ bound_limit) c.head.bound bound_limit in
    let all = both_true (leb count 8 && c.head.zeros && bound) (every (term_ok types k count c.term) 8) e in
    let first = both_true (leb count 8 && c.head.zeros) bound all.0 in
    let small : count ≤ 8 = leb-true count 8 (both_true (leb count 8) c.head.zeros first.0).0 in
    let each : (j : ℕ) → j < used_in c → used_ok types k (c.term j) ≡ true =
    λ j l. is_used types k count c.term j (omega (arith, used_is c small)) (every_all (term_ok types k count c.term) 8 all.1 j (omega (arith, used_is c small))) in
    record {
      few = small;
      bound = between_abs 100000000000 c.head.bound first.1;
      variables = λ j l. (used types few k deep (c.term j) (each j l)).0;
      coefficients = λ j l. (used types few k deep (c.term j) (each j l)).1;
    }

-- rule 16: a literal that names an atom, on a constraint, names one of the m
pub names_constraint : (types : Types) (k m atom : ℕ) → names_atom types k m atom ≡ true → is_constraint atom ≡ true → constraint_number atom < m
unfolding names_atom
names_constraint types k m atom e on = ltb-true (constraint_number atom) m (rw on at e)
