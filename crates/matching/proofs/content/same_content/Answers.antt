-- `matching::same_content` meets its contract: the tests in a row, of the head as it was read.
use mathlib.Core.Path.{◌≡◌, refl, sym, ◌∙◌, ap, ap₂}
use mathlib.Core.Bool.{Bool, true, false, ◌&&◌, and_comm}
use Prim.Native.Nat.{ℕ, ◌≤◌}
use lib.Dec.{eqb}
use lib.IntN.{ℤ}
use mir.Syntax.{w64}
use mir.Val.{of_z}
use mir.Facts.{to_z-of_z}
use borrow.Author.Rules.{rules}
use Rattle.constraints.specs.declared.layout.ConstraintHead.{ConstraintHead}
use Rattle.constraints.specs.Layout.{Constraint, constraint_at, used_in}
use Rattle.constraints.specs.Linear.{coefficient, written, same_z, agree_at, same_content}
use Rattle.constraints.proofs.Blocks.{used_is}
use Rattle.rules.specs.declared.pattern.Linear.{Linear}
use Rattle.rules.specs.Clauses.{bounded_of}
use Rattle.matching.proofs.Words.{same_word}
use Rattle.matching.proofs.content.same_content.Goals as goal

-- the head as it was read
count_is : (read : Constraint) (head : ConstraintHead) → head ≡ read.head → read.head.count ≤ 8 → head.count ≡ used_in read
count_is read head e few = ap (λ (h : ConstraintHead). h.count) e ∙ sym (used_is read few)

-- the definition's tests
module _ (read : Constraint) (d : Linear) where
  abbrev bound_test : Bool
  bound_test = same_z read.head.bound d.bound

  abbrev terms_test : Bool
  terms_test = agree_at (written read (used_in read)) (bounded_of d).form (written read (used_in read))

  abbrev variables_test : Bool
  variables_test = agree_at (written read (used_in read)) (bounded_of d).form (bounded_of d).form

  -- two of them, as they were made
  made : (bounds variables : Bool) (n : ℕ) (l r : ℤ) → n ≡ used_in read → l ≡ read.head.bound → r ≡ d.bound → bounds ≡ same_z l r → variables ≡ agree_at (written read n) (bounded_of d).form (bounded_of d).form → (bound_test && variables_test) ≡ (bounds && variables)
  made bounds variables n l r count left right e f =
      sym
      (ap₂ ◌&&◌
      (e ∙ ap₂ same_z left right)
      (f ∙ ap (λ (n : ℕ). agree_at (written read n) (bounded_of d).form (bounded_of d).form) count))

-- they stand on both sides of that of the terms
around : (bounds terms variables both : Bool) → (bounds && variables) ≡ both → (bounds && terms && variables) ≡ (both && terms)
around true terms variables both e = and_comm terms variables ∙ ap (λ (x : Bool). x && terms) e
around false terms variables both e = ap (λ (x : Bool). x && terms) e

pub do_variables_agree-requires : goal.do_variables_agree-requires
do_variables_agree-requires c =
    let read : Constraint = constraint_at c.args.file.now c.args.at in
    let head_is = c.constraint_head-head.ensures in
    let count = count_is read c.constraint_head-head.result head_is c.requires.at_in_bounds.1 in
    record {
      at_in_bounds = (search rules, rw head_is c.requires.at_in_bounds.1, c.requires.at_in_bounds.2);
      first_value = to_z-of_z c.ranges.first ∙ c.requires.first_value ∙ ap (λ (n : ℕ). coefficient (written read n) c.args.d.x) (sym count);
    }

pub returns-then-not-head-d : goal.returns-then-not-head-d
unfolding same_content
returns-then-not-head-d c =
    let read : Constraint = constraint_at c.args.file.now c.args.at in
    let head_is = c.constraint_head-head.ensures in
    let count = count_is read c.constraint_head-head.result head_is c.requires.at_in_bounds.1 in
    let both : (bound_test read c.args.d && variables_test read c.args.d) ≡ (eqb (of_z w64 c.constraint_head-head.result.bound) (of_z w64 c.args.d.bound) && c.do_variables_agree.result) =
    made read c.args.d _ _ _ _ _ count
    (ap (λ (h : ConstraintHead). h.bound) head_is)
    refl
    (same_word c.constraint_head-head.result.bound c.args.d.bound (search rules) (search rules))
    c.do_variables_agree.ensures in
    sym (around (bound_test read c.args.d) (terms_test read c.args.d) (variables_test read c.args.d) false (both ∙ c.if-not-head-d.true))

pub returns : goal.returns
unfolding same_content
returns c =
    let read : Constraint = constraint_at c.args.file.now c.args.at in
    let head_is = c.constraint_head-head.ensures in
    let count = count_is read c.constraint_head-head.result head_is c.requires.at_in_bounds.1 in
    let both : (bound_test read c.args.d && variables_test read c.args.d) ≡ (eqb (of_z w64 c.constraint_head-head.result.bound) (of_z w64 c.args.d.bound) && c.do_variables_agree.result) =
    made read c.args.d _ _ _ _ _ count
    (ap (λ (h : ConstraintHead). h.bound) head_is)
    refl
    (same_word c.constraint_head-head.result.bound c.args.d.bound (search rules) (search rules))
    c.do_variables_agree.ensures in
    c.do_terms_agree.ensures
    ∙ ap (λ (n : ℕ). agree_at (written read n) (bounded_of c.args.d).form (written read n)) count
    ∙ sym (around (bound_test read c.args.d) (terms_test read c.args.d) (variables_test read c.args.d) true (both ∙ c.if-not-head-d.false))
