-- `matching::is_multiple` meets its contract: the constraint as it was read, against d times the factor that it shows.
use mathlib.Core.Path.{◌≡◌, sym, ◌∙◌, ap, ap₂}
use mathlib.Core.Bool.{Bool, not, ◌&&◌}
use Prim.Native.Nat.{ℕ, ◌≤◌}
use lib.Dec.{eqb}
use lib.IntN.{ℤ, pos}
use mir.Syntax.{w64}
use mir.Val.{SFits, of_z}
use mir.Facts.{to_z-of_z}
use borrow.Author.Rules.{rules}
use Rattle.integers.proofs.Reading.{rd}
use Rattle.constraints.specs.declared.layout.ConstraintHead.{ConstraintHead}
use Rattle.constraints.specs.Layout.{Constraint, constraint_at}
use Rattle.constraints.specs.Linear.{coefficient, written, same_z, same_content, bounded_of as of_constraint}
use Rattle.constraints.proofs.Blocks.{used_is}
use Rattle.rules.specs.declared.pattern.Linear.{Linear}
use Rattle.rules.specs.Clauses.{bounded_of}
use Rattle.rules.specs.Factors.{factor_from, read_off, factor_read, is_multiple}
use Rattle.rules.proofs.Leading.{lead}
use Rattle.matching.specs.Factors.{multiplied_by, Fitting}
use Rattle.matching.proofs.Multiples.{read_limit, fitting, none_right}
use Rattle.matching.proofs.Words.{same_word}
use Rattle.matching.proofs.factors.is_multiple.Goals as goal

abbrev zero : ℤ → Bool
zero z = eqb (of_z w64 z) 0

-- what was read, as the definition has it
module _ (k : Constraint) (d : Linear) (head : ConstraintHead) (head_is : head ≡ k.head) (few : k.head.count ≤ 8) (f l : ℤ) (f-fits : SFits w64 f) (l-fits : SFits w64 l) where
  abbrev first : ℤ
  first = coefficient (of_constraint k).form d.x

  module _ (f-is : f ≡ coefficient (written k head.count) d.x) where
    first_is : f ≡ first
    first_is = f-is ∙ ap (λ (n : ℕ). coefficient (written k n) d.x) (ap (λ (h : ConstraintHead). h.count) head_is ∙ sym (used_is k few))

    -- the test that was made
    made : l ≡ lead d → (same_z first (pos 0) && not (same_z (lead d) (pos 0))) ≡ (zero f && not (zero l))
    made l-is =
        sym
        (ap₂ (λ (p q : Bool). p && not q)
        (same_word f (pos 0) f-fits (search rules) ∙ ap (λ (z : ℤ). same_z z (pos 0)) first_is)
        (same_word l (pos 0) l-fits (search rules) ∙ ap (λ (z : ℤ). same_z z (pos 0)) l-is))

    -- where the factor is read
    read_is : (z : ℤ) → SFits w64 z → SFits w64 head.bound → z ≡ read_off (rd w64 f) (rd w64 head.bound) → rd w64 z ≡ read_off first k.head.bound
    read_is z fits bound e =
        to_z-of_z fits ∙ e ∙ ap₂ read_off (to_z-of_z f-fits ∙ first_is) (to_z-of_z bound ∙ ap (λ (h : ConstraintHead). h.bound) head_is)

pub returns-then-first-coefficient_of : goal.returns-then-first-coefficient_of
returns-then-first-coefficient_of c =
    let k : Constraint = constraint_at c.args.file.now c.args.at in
    let d : Linear = c.args.d in
    let f-fits : SFits w64 c.coefficient_at-first.result = record { sfits = c.coefficient_at-first.type_inv } in
    let l-fits : SFits w64 c.coefficient_of.result = record { sfits = c.coefficient_of.type_inv } in
    let head_is = c.constraint_head-head.ensures in
    let test : (same_z (coefficient (of_constraint k).form d.x) (pos 0) && not (same_z (lead d) (pos 0))) ≡ (zero c.coefficient_at-first.result && not (zero c.coefficient_of.result)) =
    made k d c.constraint_head-head.result head_is c.requires.1.few c.coefficient_at-first.result c.coefficient_of.result f-fits l-fits c.coefficient_at-first.ensures c.coefficient_of.ensures in
    sym (none_right d (of_constraint k) (test ∙ c.if-first-coefficient_of.true))

pub factor_from-factor-requires : goal.factor_from-factor-requires
factor_from-factor-requires c =
    let k : Constraint = constraint_at c.args.file.now c.args.at in
    let d : Linear = c.args.d in
    let f-fits : SFits w64 c.coefficient_at-first.result = record { sfits = c.coefficient_at-first.type_inv } in
    let l-fits : SFits w64 c.coefficient_of.result = record { sfits = c.coefficient_of.type_inv } in
    let head_is = c.constraint_head-head.ensures in
    let read : rd w64 c.read_off.result ≡ read_off (coefficient (of_constraint k).form d.x) k.head.bound =
    read_is k d c.constraint_head-head.result head_is c.requires.1.few c.coefficient_at-first.result c.coefficient_of.result f-fits l-fits c.coefficient_at-first.ensures _ (record { sfits = c.read_off.type_inv }) (record { sfits = c.struct_told-1.given.1.1.0.1 }) c.read_off.ensures in
    rw read (read_limit k c.requires.1 d)

pub multiplied-requires : goal.multiplied-requires
multiplied-requires c =
    let k : Constraint = constraint_at c.args.file.now c.args.at in
    let d : Linear = c.args.d in
    let f-fits : SFits w64 c.coefficient_at-first.result = record { sfits = c.coefficient_at-first.type_inv } in
    let l-fits : SFits w64 c.coefficient_of.result = record { sfits = c.coefficient_of.type_inv } in
    let head_is = c.constraint_head-head.ensures in
    let test : (same_z (coefficient (of_constraint k).form d.x) (pos 0) && not (same_z (lead d) (pos 0))) ≡ (zero c.coefficient_at-first.result && not (zero c.coefficient_of.result)) =
    made k d c.constraint_head-head.result head_is c.requires.1.few c.coefficient_at-first.result c.coefficient_of.result f-fits l-fits c.coefficient_at-first.ensures c.coefficient_of.ensures in
    let read : rd w64 c.read_off.result ≡ read_off (coefficient (of_constraint k).form d.x) k.head.bound =
    read_is k d c.constraint_head-head.result head_is c.requires.1.few c.coefficient_at-first.result c.coefficient_of.result f-fits l-fits c.coefficient_at-first.ensures _ (record { sfits = c.read_off.type_inv }) (record { sfits = c.struct_told-1.given.1.1.0.1 }) c.read_off.ensures in
    let factor_is : rd w64 c.factor_from-factor.result ≡ pos (factor_read d (of_constraint k)) =
    to_z-of_z {w = w64} (record { sfits = c.factor_from-factor.type_inv }) ∙ c.factor_from-factor.ensures ∙ ap (λ (z : ℤ). pos (factor_from z)) read in
    let fits : Fitting (pos (factor_read d (of_constraint k))) d = fitting k c.requires.1 d c.requires.2 (test ∙ c.if-first-coefficient_of.false) in
    rw factor_is fits

pub same_content-requires : goal.same_content-requires
same_content-requires c =
    let k : Constraint = constraint_at c.args.file.now c.args.at in
    let d : Linear = c.args.d in
    let f-fits : SFits w64 c.coefficient_at-first.result = record { sfits = c.coefficient_at-first.type_inv } in
    let l-fits : SFits w64 c.coefficient_of.result = record { sfits = c.coefficient_of.type_inv } in
    let head_is = c.constraint_head-head.ensures in
    let test : (same_z (coefficient (of_constraint k).form d.x) (pos 0) && not (same_z (lead d) (pos 0))) ≡ (zero c.coefficient_at-first.result && not (zero c.coefficient_of.result)) =
    made k d c.constraint_head-head.result head_is c.requires.1.few c.coefficient_at-first.result c.coefficient_of.result f-fits l-fits c.coefficient_at-first.ensures c.coefficient_of.ensures in
    let read : rd w64 c.read_off.result ≡ read_off (coefficient (of_constraint k).form d.x) k.head.bound =
    read_is k d c.constraint_head-head.result head_is c.requires.1.few c.coefficient_at-first.result c.coefficient_of.result f-fits l-fits c.coefficient_at-first.ensures _ (record { sfits = c.read_off.type_inv }) (record { sfits = c.struct_told-1.given.1.1.0.1 }) c.read_off.ensures in
    let factor_is : rd w64 c.factor_from-factor.result ≡ pos (factor_read d (of_constraint k)) =
    to_z-of_z {w = w64} (record { sfits = c.factor_from-factor.type_inv }) ∙ c.factor_from-factor.ensures ∙ ap (λ (z : ℤ). pos (factor_from z)) read in
    let fits : Fitting (pos (factor_read d (of_constraint k))) d = fitting k c.requires.1 d c.requires.2 (test ∙ c.if-first-coefficient_of.false) in
    let product_is : c.multiplied.result ≡ multiplied_by (pos (factor_read d (of_constraint k))) d = c.multiplied.ensures ∙ ap (λ (f : ℤ). multiplied_by f d) factor_is in
    record { at_in_bounds = (c.requires.0, c.requires.1.few, rw product_is fits.sums); first_value = rw (product_is, to_z-of_z f-fits) (first_is k d c.constraint_head-head.result head_is c.requires.1.few c.coefficient_at-first.result c.coefficient_of.result f-fits l-fits c.coefficient_at-first.ensures) }

pub returns : goal.returns
unfolding is_multiple
returns c =
    let k : Constraint = constraint_at c.args.file.now c.args.at in
    let d : Linear = c.args.d in
    let f-fits : SFits w64 c.coefficient_at-first.result = record { sfits = c.coefficient_at-first.type_inv } in
    let l-fits : SFits w64 c.coefficient_of.result = record { sfits = c.coefficient_of.type_inv } in
    let head_is = c.constraint_head-head.ensures in
    let read : rd w64 c.read_off.result ≡ read_off (coefficient (of_constraint k).form d.x) k.head.bound =
    read_is k d c.constraint_head-head.result head_is c.requires.1.few c.coefficient_at-first.result c.coefficient_of.result f-fits l-fits c.coefficient_at-first.ensures _ (record { sfits = c.read_off.type_inv }) (record { sfits = c.struct_told-1.given.1.1.0.1 }) c.read_off.ensures in
    let factor_is : rd w64 c.factor_from-factor.result ≡ pos (factor_read d (of_constraint k)) =
    to_z-of_z {w = w64} (record { sfits = c.factor_from-factor.type_inv }) ∙ c.factor_from-factor.ensures ∙ ap (λ (z : ℤ). pos (factor_from z)) read in
    let product_is : c.multiplied.result ≡ multiplied_by (pos (factor_read d (of_constraint k))) d = c.multiplied.ensures ∙ ap (λ (f : ℤ). multiplied_by f d) factor_is in
    c.same_content.ensures ∙ ap (λ (l : Linear). same_content (of_constraint k) (bounded_of l)) product_is
