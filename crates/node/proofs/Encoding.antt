-- Records and equations, `decoded` and `encoded`, are inverse: so an equation's operator, operands and constant are those of its
-- record, and the rules of records are rules of equations.
-- Assumes nothing.
use mathlib.Core.Path.{◌≡◌, refl, sym, ◌∙◌, subst}
use mathlib.Core.Bool.{true, ◌&&◌, ◌||◌}
use Prim.Native.Nat.{ℕ, zero, suc, ◌<◌, ◌≤◌}
use native.Mathlib.Omega.{arith}
use borrow.Author.Tests.{leb-true, ltb-true, eqb-true}
use lib.Dec.{leb, ltb, eqb}
use lib.IntN.{ℤ, pos, neg_ℤ, nat_abs}
use lib.Signed.{le_z}
use Rattle.integers.proofs.Abs.{abs-≤}
use Rattle.integers.proofs.Order.{le_z_true, ≤ℤ-trans, ≤ℤ-antisym}
use Rattle.answers.proofs.Entries.{each}
use Rattle.answers.proofs.Tests.{both_true}
use Rattle.node.specs.declared.equation.StreamType.{StreamType}
use Rattle.node.specs.declared.equation.StreamType.TheVariants.{Bool as BoolType, Int as IntType}
use Rattle.node.specs.declared.equation.Equation.{Equation}
use Rattle.node.specs.declared.equation.Equation.TheVariants.{Input, Constant, Not, And, Or, Same, Sum, Difference, Multiple, AtMost, Equal, If, Arrow, FollowedBy, Lesser, Greater}
use Rattle.node.specs.declared.layout.Record.{Record}
use Rattle.node.specs.declared.table.Limit.{Limit}
use Rattle.node.specs.declared.table.Limit.TheVariants.{Zero, Value, Factor}
use Rattle.node.specs.declared.table.Operand.{Operand}
use Rattle.node.specs.declared.table.Operand.TheVariants.{Unused, Now, Before}
use Rattle.node.specs.declared.table.Row.{Row}
use Rattle.node.specs.Equations.{type_of, byte_of, decoded, encoded}
use Rattle.node.specs.Reads.{InRange}
use Rattle.node.specs.Rules.{range_of, constant_ok, unused_ok, shape_ok}
use Rattle.node.specs.Table.{operators, row_of, reads_it}

-- every equation is that of its record
pub decoded_encoded : (ty : StreamType) (e : Equation) → decoded (encoded ty e) ≡ e
unfolding decoded
decoded_encoded ty Input = refl
decoded_encoded ty (Constant k) = refl
decoded_encoded ty (Not a) = refl
decoded_encoded ty (And a b) = refl
decoded_encoded ty (Or a b) = refl
decoded_encoded ty (Same a b) = refl
decoded_encoded ty (Sum a b) = refl
decoded_encoded ty (Difference a b) = refl
decoded_encoded ty (Multiple k a) = refl
decoded_encoded ty (AtMost a b) = refl
decoded_encoded ty (Equal a b) = refl
decoded_encoded ty (If c a b) = refl
decoded_encoded ty (Arrow a b) = refl
decoded_encoded ty (FollowedBy a b) = refl
decoded_encoded ty (Lesser a b) = refl
decoded_encoded ty (Greater a b) = refl

-- ---- rule 5, part by part

-- an operand that is not read is 0
abbrev ReadOrZero : Operand → ℕ → Type 0
ReadOrZero operand x = (reads_it operand || eqb x 0) ≡ true

pub record Shape (r : Record) : Type 0 where
  pub operator : r.op < operators
  pub ty : r.ty ≤ 1
  pub constant : InRange (row_of r.op).k (type_of r.ty) r.k
  pub a : ReadOrZero (row_of r.op).a r.a
  pub b : ReadOrZero (row_of r.op).b r.b
  pub c : ReadOrZero (row_of r.op).c r.c
  pub rest : r.rest ≡ 0

pub shape : (r : Record) → shape_ok r ≡ true → Shape r
unfolding shape_ok unused_ok
shape r e =
    let row = row_of r.op in
    let range = range_of row.k (type_of r.ty) in
    let a = reads_it row.a || eqb r.a 0 in
    let b = reads_it row.b || eqb r.b 0 in
    let c = reads_it row.c || eqb r.c 0 in
    let limit = constant_ok row.k (type_of r.ty) r.k in
    let first = both_true (ltb r.op operators && leb r.ty 1 && limit) (a && b && c && eqb r.rest 0) e in
    let bytes = both_true (ltb r.op operators && leb r.ty 1) limit first.0 in
    let two = both_true (ltb r.op operators) (leb r.ty 1) bytes.0 in
    let k = both_true (le_z range.0 r.k) (le_z r.k range.1) bytes.1 in
    let four = both_true (a && b && c) (eqb r.rest 0) first.1 in
    let three = both_true (a && b) c four.0 in
    record {
      operator = ltb-true _ _ two.0;
      ty = leb-true _ _ two.1;
      constant = ((le_z_true range.0 r.k).0 k.0, (le_z_true r.k range.1).0 k.1);
      a = (both_true a b three.0).0;
      b = (both_true a b three.0).1;
      c = three.1;
      rest = eqb-true _ _ four.1;
    }

-- ---- a record with what its row does not use set to 0

abbrev used : Operand → ℕ → ℕ
used Unused x = 0
used (Now wanted) x = x
used (Before wanted) x = x

used_is : (operand : Operand) (x : ℕ) → ReadOrZero operand x → used operand x ≡ x
used_is Unused x e = sym (eqb-true x 0 e)
used_is (Now wanted) x e = refl
used_is (Before wanted) x e = refl

abbrev used_constant : Limit → ℤ → ℤ
used_constant Zero k = pos 0
used_constant Value k = k
used_constant Factor k = k

constant_is : (limit : Limit) (ty : StreamType) (k : ℤ) → InRange limit ty k → used_constant limit k ≡ k
constant_is Zero ty k r = ≤ℤ-antisym (pos 0) k r.0 r.1
constant_is Value ty k r = refl
constant_is Factor ty k r = refl

-- "|K| is at most 1,000,000,000", whatever the limit and the type
pub limited : (limit : Limit) (ty : StreamType) (k : ℤ) → InRange limit ty k → nat_abs k ≤ 1000000000
limited Zero ty k h = rw (← (≤ℤ-antisym (pos 0) k h.0 h.1)) (omega arith)
limited Value BoolType k h = omega (arith, (abs-≤ 1 k).1 (≤ℤ-trans (neg_ℤ (pos 1)) (pos 0) k ((le_z_true (neg_ℤ (pos 1)) (pos 0)).0 refl) h.0, h.1))
limited Value IntType k h = (abs-≤ 1000000000 k).1 h
limited Factor ty k h = (abs-≤ 1000000000 k).1 h

byte_is : (byte : ℕ) → byte ≤ 1 → byte_of (type_of byte) ≡ byte
byte_is zero l = refl
byte_is (suc zero) l = refl
byte_is (suc (suc byte)) l = absurd (omega arith)

abbrev cleared : Row → Record → Record
cleared row r =
    record {
      op = r.op;
      ty = byte_of (type_of r.ty);
      a = used row.a r.a;
      b = used row.b r.b;
      c = used row.c r.c;
      k = used_constant row.k r.k;
      rest = 0;
    }

-- the record with another operator
abbrev with_op : Record → ℕ → Record
with_op r op = record { op = op; ty = r.ty; a = r.a; b = r.b; c = r.c; k = r.k; rest = r.rest }

-- encoding keeps what the row uses: by computation, row by row
by_row : (r : Record) → r.op < operators → encoded (type_of r.ty) (decoded r) ≡ cleared (row_of r.op) r
unfolding decoded row_of
by_row r l =
    each (λ op. encoded (type_of r.ty) (decoded (with_op r op)) ≡ cleared (row_of op) (with_op r op)) operators
    ((((((((((((((((tt, refl), refl), refl), refl), refl), refl), refl), refl), refl), refl), refl), refl), refl), refl), refl), refl)
    r.op l

same_record : (r : Record) {ty a b c rest : ℕ} {k : ℤ} → ty ≡ r.ty → a ≡ r.a → b ≡ r.b → c ≡ r.c → k ≡ r.k → rest ≡ r.rest → record { op = r.op; ty = ty; a = a; b = b; c = c; k = k; rest = rest } ≡ r
same_record r e f g h i j = rw (e, f, g, h, i, j)

-- every record that keeps rule 5 is that of its equation
pub encoded_decoded : (r : Record) → shape_ok r ≡ true → encoded (type_of r.ty) (decoded r) ≡ r
encoded_decoded r e =
    let s = shape r e in
    let row = row_of r.op in
    by_row r s.operator
    ∙ same_record r
    (byte_is r.ty s.ty)
    (used_is row.a r.a s.a)
    (used_is row.b r.b s.b)
    (used_is row.c r.c s.c)
    (constant_is row.k (type_of r.ty) r.k s.constant)
    (sym s.rest)

-- so what holds of the record holds of the equation's
pub by_record : (P : Record → Type 0) (r : Record) → shape_ok r ≡ true → P r → P (encoded (type_of r.ty) (decoded r))
by_record P r e p = subst P (sym (encoded_decoded r e)) p
