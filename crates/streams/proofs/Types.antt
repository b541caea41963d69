-- Types fit: each operator gives a value of its stream's type, and so every value that the rows give is of its stream's type.
-- Assumes nothing.
use mathlib.Core.Path.{◌≡◌, refl, sym, subst}
use mathlib.Core.Bool.{Bool, true, false, not, cond, ◌&&◌, ◌||◌, beq}
use mathlib.Core.List.{List}
use Prim.Native.Nat.{ℕ, ◌<◌}
use lib.IntN.{ℤ}
use lib.Signed.{le_z}
use Rattle.node.specs.declared.equation.StreamType.{StreamType}
use Rattle.node.specs.declared.equation.StreamType.TheVariants.{Bool as BoolType, Int as IntType}
use Rattle.node.specs.declared.equation.Equation.{Equation}
use Rattle.node.specs.declared.equation.Equation.TheVariants.{Input, Constant, Not, And, Or, Same, Sum, Difference, Multiple, AtMost, Equal, If, Arrow, FollowedBy, Lesser, Greater}
use Rattle.node.specs.declared.table.Limit.TheVariants.{Value}
use Rattle.node.specs.Reads.{row_for, reads, yields, wanted_type, All, ReadOk, InRange, ConstantOk}
use Rattle.node.specs.Table.{row_of}
use Rattle.streams.specs.Meaning.{meaning}
use Rattle.streams.specs.Nodes.{Node, WellFormedNode}
use Rattle.streams.specs.Solutions.{Streams, is_first}
use Rattle.streams.specs.Typing.{Fits, Inputs, given, TypedInstant, TypedInputs}
use Rattle.streams.specs.Values.{number, truth, equals, Values}
use Rattle.streams.proofs.Agreement.{AllRows}
use Rattle.streams.proofs.Keeping.{Keeps, solution_keeps}
use Rattle.streams.proofs.Numbers.{number_fits}
use Rattle.streams.proofs.Orders.{place_of, ranked_by_place}
use Rattle.streams.proofs.Reading.{all_map₂, found, is_read}

constant_fits : (own : StreamType) (k : ℤ) → InRange Value own k → Fits own k
constant_fits BoolType k c = c
constant_fits IntType k c = tt

either_fits : (own : StreamType) (b : Bool) (x y : ℤ) → Fits own x → Fits own y → Fits own (cond b x y)
either_fits own true x y f g = f
either_fits own false x y f g = g

-- at instant 0 and later
by_first : (P : Bool → Type 0) → P true × P false → (first : Bool) → P first
by_first P ps true = ps.0
by_first P ps false = ps.1

a_bool : {own : StreamType} (b : Bool) → own ≡ BoolType → Fits own (number b)
a_bool b e = subst (λ (k : StreamType). Fits k (number b)) (sym e) (number_fits b)

an_int : {own : StreamType} (z : ℤ) → own ≡ IntType → Fits own z
an_int z e = subst (λ (k : StreamType). Fits k z) (sym e) tt

-- one operator, over its stream's type
pub meaning_fits : (own : StreamType) (e : Equation) (g : ℤ) (f : Bool) (p v : Values) → own ≡ wanted_type own (yields e) → ConstantOk own e → (e ≡ Input → Fits own g) → All (λ r. is_read f r ≡ true → Fits (wanted_type own r.wanted) (found p v r)) (reads e) → Fits own (meaning e g f p v)
unfolding row_of row_for reads
meaning_fits own Input g f p v y c i h = i refl
meaning_fits own (Constant k) g f p v y c i h = constant_fits own k c
meaning_fits own (Not a) g f p v y c i h = a_bool (not (truth (v a))) y
meaning_fits own (And a b) g f p v y c i h = a_bool (truth (v a) && truth (v b)) y
meaning_fits own (Or a b) g f p v y c i h = a_bool (truth (v a) || truth (v b)) y
meaning_fits own (Same a b) g f p v y c i h = a_bool (beq (truth (v a)) (truth (v b))) y
meaning_fits own (Sum a b) g f p v y c i h = an_int _ y
meaning_fits own (Difference a b) g f p v y c i h = an_int _ y
meaning_fits own (Multiple k a) g f p v y c i h = an_int _ y
meaning_fits own (AtMost a b) g f p v y c i h = a_bool (le_z (v a) (v b)) y
meaning_fits own (Equal a b) g f p v y c i h = a_bool (equals (v a) (v b)) y
meaning_fits own (If c a b) g f p v y k i h = either_fits own (truth (v c)) (v a) (v b) (h.0 refl) (h.1.0 refl)
meaning_fits own (Arrow a b) g f p v y c i h = by_first (λ first. Fits own (meaning (Arrow a b) g first p v)) (search (h.0 refl, h.1.0 refl)) f
meaning_fits own (FollowedBy a b) g true p v y c i h = h.0 refl
meaning_fits own (FollowedBy a b) g false p v y c i h = h.1.0 refl
meaning_fits own (Lesser a b) g f p v y c i h = an_int _ y
meaning_fits own (Greater a b) g f p v y c i h = an_int _ y

-- on typed inputs every row keeps its stream's type
pub types_kept : (node : Node) → WellFormedNode node → (inputs : List ℤ) → TypedInstant node inputs → (first : Bool) → Keeps node (λ s. Fits (node.types s)) inputs first
types_kept node wf inputs typed first s l p v h =
    meaning_fits (node.types s) (node.equations s) (given node inputs s) first p v (wf.own s l) (wf.constants s l) (typed.fits s l)
    (all_map₂ {P = ReadOk node.streams node.types s} {R = λ r. is_read first r ≡ true → Fits (wanted_type (node.types s) r.wanted) (found p v r)}
    (λ r ok fits e. subst (λ (k : StreamType). Fits k (found p v r)) ok.typed (fits e))
    (reads (node.equations s)) (wf.operands s l) h)

pub rows_fit : (node : Node) → WellFormedNode node → (inputs : Inputs) → TypedInputs node inputs → (values : Streams) → AllRows node inputs values → (t s : ℕ) → s < node.streams → Fits (node.types s) (values t s)
rows_fit node wf inputs typed values rows t =
    solution_keeps node (place_of node) (ranked_by_place node wf) (λ s. Fits (node.types s)) inputs values rows t
    (λ j l. types_kept node wf (inputs j) (typed j) (is_first j))
