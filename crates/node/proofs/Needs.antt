-- What an equation needs now, from the row of its record; and the worked-out order of equations of which all are placed.
-- Assumes nothing.
use mathlib.Core.Path.{◌≡◌, refl, sym, ◌∙◌}
use mathlib.Core.Logic.{⊎_elim}
use mathlib.Core.Bool.{Bool, true, false, cond, ◌&&◌, false≢true}
use mathlib.Core.List.{List, [], ◌∷◌, ◌++◌}
use Prim.Native.Nat.{ℕ, ◌<◌}
use native.Mathlib.Omega.{arith}
use borrow.Author.Tests.{eqb-true, eq-eqb}
use lib.Dec.{eqb}
use lib.ListN.{length}
use Rattle.answers.proofs.Tests.{both_true, either_true}
use Rattle.node.specs.declared.equation.Equation.{Equation}
use Rattle.node.specs.declared.layout.Record.{Record}
use Rattle.node.specs.declared.table.Row.{Row}
use Rattle.node.specs.Equations.{decoded}
use Rattle.node.specs.Order.{is_among, place_in}
use Rattle.node.specs.Reads.{Read, reading, row_reads, row_for, reads, needed_in, needed_now, worked_out_order, All, Ordered}
use Rattle.node.specs.Rules.{shape_ok, is_stream, operands_ok}
use Rattle.node.specs.Table.{row_of}
use Rattle.node.proofs.Different.{names, once, place_below, at_place_is, or_left, or_right}
use Rattle.node.proofs.Encoding.{by_record}
use Rattle.node.proofs.Placing.{sorted, full_size}

pub all_append : {A : Type 0} (P : A → Type 0) (xs ys : List A) → All P xs → All P ys → All P (xs ++ ys)
all_append P [] ys ps qs = qs
all_append P (x ∷ xs) ys ps qs = (ps.0, all_append P xs ys ps.1 qs)

-- what holds of each operand holds of all that a row reads
pub by_operand : (P : Read → Type 0) (row : Row) (r : Record) → All P (reading row.a r.a) → All P (reading row.b r.b) → All P (reading row.c r.c) → All P (row_reads row r)
by_operand P row r a b c = all_append P (reading row.a r.a) _ a (all_append P (reading row.b r.b) _ b c)

-- rule 6, operand by operand
pub operand_streams : (n : ℕ) (r : Record) → operands_ok n r ≡ true → let row = row_of r.op in (is_stream row.a n r.a ≡ true) × (is_stream row.b n r.b ≡ true) × (is_stream row.c n r.c ≡ true)
unfolding operands_ok
operand_streams n r ok =
    let row = row_of r.op in
    let a = is_stream row.a n r.a in
    let b = is_stream row.b n r.b in
    let two = both_true (a && b) (is_stream row.c n r.c) ok in
    let one = both_true a b two.0 in
    (one.0, one.1, two.1)

-- P of each stream that is read and needed now
abbrev pub OfNeeded : (P : ℕ → Type 0) → Read → Type 0
OfNeeded P r = r.now ≡ true → P r.stream

-- what holds of each number needed now holds of each operand that is ..
pub of_needed : (P : ℕ → Type 0) (rs : List Read) → ((x : ℕ) → is_among (needed_in rs) x ≡ true → P x) → All (OfNeeded P) rs
unfolding is_among
of_needed P [] h = tt
of_needed P (r ∷ rs) h = go r.now refl h (of_needed P rs)
  where
    go : (b : Bool) → r.now ≡ b → ((x : ℕ) → is_among (cond b (r.stream ∷ needed_in rs) (needed_in rs)) x ≡ true → P x) → (((x : ℕ) → is_among (needed_in rs) x ≡ true → P x) → All (OfNeeded P) rs) → OfNeeded P r × All (OfNeeded P) rs
    go true e h ih = (λ p. h r.stream (or_left (is_among (needed_in rs) r.stream) (eq-eqb r.stream r.stream refl)), ih (λ x q. h x (or_right (eqb r.stream x) q)))
    go false e h ih = (λ p. absurd (false≢true (sym e ∙ p)), ih h)

-- .. and the other way round
pub needed_of : (P : ℕ → Type 0) (rs : List Read) → All (OfNeeded P) rs → (x : ℕ) → is_among (needed_in rs) x ≡ true → P x
unfolding is_among
needed_of P [] ps x e = absurd (false≢true e)
needed_of P (r ∷ rs) ps x e = go r.now refl e (needed_of P rs ps.1 x)
  where
    go : (b : Bool) → r.now ≡ b → is_among (cond b (r.stream ∷ needed_in rs) (needed_in rs)) x ≡ true → (is_among (needed_in rs) x ≡ true → P x) → P x
    go true p h ih =
        ⊎_elim (λ (q : eqb r.stream x ≡ true). rw (← (eqb-true r.stream x q)) (ps.0 p)) ih
        (either_true (eqb r.stream x) (is_among (needed_in rs) x) h)
    go false p h ih = ih h

-- a record's equation needs what the record's row says
pub needed_is : (r : Record) → shape_ok r ≡ true → needed_now (decoded r) ≡ needed_in (row_reads (row_of r.op) r)
unfolding needed_now reads row_for
needed_is r e = by_record (λ x. needed_in (row_reads (row_of x.op) x) ≡ needed_in (row_reads (row_of r.op) r)) r e refl

-- the order has each record once, and each after all that it needs now
module _ (equations : ℕ → Equation) (n : ℕ) (all_Placed : (i : ℕ) → i < n → is_among (worked_out_order equations n) i ≡ true) where
  abbrev needs : ℕ → List ℕ
  needs i = needed_now (equations i)

  abbrev order : List ℕ
  order = worked_out_order equations n

  size : length order ≡ n
  size = full_size needs n all_Placed

  pub ordered : Ordered n equations order
  unfolding needed_now
  ordered =
      record {
        size = size;
        names = λ k l. names n order (sorted needs n n).distinct k (omega (arith, size));
        once = λ k l. once n order (sorted needs n n).distinct k (omega (arith, size));
        has = λ i l. omega (arith, size, place_below order i (all_Placed i l));
        at_place_is = λ i l. at_place_is order i (all_Placed i l);
        after = λ i l. of_needed (λ x. place_in order x < place_in order i) (reads (equations i)) (λ x e. ((sorted needs n n).after i x (all_Placed i l) e).1);
      }
