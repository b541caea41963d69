-- What a record defines: a stream's type and its equation.
use Rattle.std.specs.Prelude.{ℕ, List, [], ◌∷◌, cond, eqb, ℤ, pos, get_or}
use Rattle.node.specs.declared.layout.Record.{Record}
use Rattle.node.specs.declared.equation.StreamType.{StreamType}
use Rattle.node.specs.declared.equation.StreamType.TheVariants.{Bool as BoolType, Int as IntType}
use Rattle.node.specs.declared.equation.Equation.{Equation}
use Rattle.node.specs.declared.equation.Equation.TheVariants.{Input, Constant, Not, And, Or, Same, Sum, Difference, Multiple, AtMost, Equal, If, Arrow, FollowedBy, Lesser, Greater}
use Rattle.node.specs.Layout.{records_of, record_among, type_byte_among}

-- "type byte (0 bool, 1 int)"
abbrev pub type_of : ℕ → StreamType
type_of byte = cond (eqb byte 0) BoolType IntType

abbrev pub byte_of : StreamType → ℕ
byte_of BoolType = 0
byte_of IntType = 1

-- operators 0 to 15, each with its own operands
abbrev pub equations : Record → List Equation
equations r =
    Input
    ∷ Constant r.k
    ∷ Not r.a
    ∷ And r.a r.b
    ∷ Or r.a r.b
    ∷ Same r.a r.b
    ∷ Sum r.a r.b
    ∷ Difference r.a r.b
    ∷ Multiple r.k r.a
    ∷ AtMost r.a r.b
    ∷ Equal r.a r.b
    ∷ If r.c r.a r.b
    ∷ Arrow r.a r.b
    ∷ FollowedBy r.a r.b
    ∷ Lesser r.a r.b
    ∷ Greater r.a r.b
    ∷ []

-- the equation of a record; past the table, where rule 5 refuses, an input
unfoldable pub decoded : Record → Equation
decoded r = get_or (equations r) r.op Input

-- the operator, operands and constant of an equation, the rest 0: "Unused fields are zero"
abbrev fields : (op a b c : ℕ) (k : ℤ) → Record
fields op a b c k = record { op = op; ty = 0; a = a; b = b; c = c; k = k; rest = 0 }

abbrev pub fields_of : Equation → Record
fields_of Input = fields 0 0 0 0 (pos 0)
fields_of (Constant k) = fields 1 0 0 0 k
fields_of (Not a) = fields 2 a 0 0 (pos 0)
fields_of (And a b) = fields 3 a b 0 (pos 0)
fields_of (Or a b) = fields 4 a b 0 (pos 0)
fields_of (Same a b) = fields 5 a b 0 (pos 0)
fields_of (Sum a b) = fields 6 a b 0 (pos 0)
fields_of (Difference a b) = fields 7 a b 0 (pos 0)
fields_of (Multiple k a) = fields 8 a 0 0 k
fields_of (AtMost a b) = fields 9 a b 0 (pos 0)
fields_of (Equal a b) = fields 10 a b 0 (pos 0)
fields_of (If c a b) = fields 11 a b c (pos 0)
fields_of (Arrow a b) = fields 12 a b 0 (pos 0)
fields_of (FollowedBy a b) = fields 13 a b 0 (pos 0)
fields_of (Lesser a b) = fields 14 a b 0 (pos 0)
fields_of (Greater a b) = fields 15 a b 0 (pos 0)

-- the record of an equation: `decoded` and it are inverse (proofs/Encoding.antt)
abbrev pub encoded : StreamType → Equation → Record
encoded ty e =
    let f = fields_of e in
    record { op = f.op; ty = byte_of ty; a = f.a; b = f.b; c = f.c; k = f.k; rest = 0 }

-- the constant K of an equation, 0 where it has none
abbrev pub constant_of : Equation → ℤ
constant_of e = (fields_of e).k

-- type and equation of stream i of n
unfoldable pub type_among : List ℕ → (n i : ℕ) → StreamType
type_among s n i = type_of (type_byte_among s n i)

abbrev pub equation_among : List ℕ → (n i : ℕ) → Equation
equation_among s n i = decoded (record_among s n i)

-- of stream i
abbrev pub type_at : List ℕ → ℕ → StreamType
type_at s i = type_among s (records_of s) i

abbrev pub equation_at : List ℕ → ℕ → Equation
equation_at s i = equation_among s (records_of s) i
