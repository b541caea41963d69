-- `matching::is_most` meets its contract: each test that failed is one of the four, and past them the constraints are compared.
use mathlib.Core.Path.{sym, ◌∙◌, ap}
use Prim.Native.Nat.{ℕ, ◌+◌, ◌*◌, ◌≤◌, ◌<◌}
use native.Mathlib.Omega.{arith}
use Rattle.constraints.specs.Layout.{Constraint, constraint_at}
use Rattle.constraints.specs.Linear.{bounded_of as of_constraint}
use Rattle.rules.specs.Factors.{is_multiple}
use Rattle.literals.specs.Literals.{atom_of, constraint_number}
use Rattle.matching.proofs.Saying.{not_negated, not_bool, not_past, says_multiple}
use Rattle.matching.proofs.patterns.is_most.Goals as goal

pub returns-then-sign : goal.returns-then-sign
returns-then-sign c =
    let constraints : (ℕ → Constraint) = λ i. constraint_at c.args.file.now (c.args.start + 80 * i) in
    sym (not_negated constraints c.args.m c.args.d c.args.literal.0 (sym c.sign.ensures ∙ c.if-sign.true))

pub returns-then-atom-lt576 : goal.returns-then-atom-lt576
returns-then-atom-lt576 c =
    let constraints : (ℕ → Constraint) = λ i. constraint_at c.args.file.now (c.args.start + 80 * i) in
    let low : atom_of c.args.literal.0 < 576 = omega (arith, c.atom-atom.ensures) in
    sym (not_bool constraints c.args.m c.args.d c.args.literal.0 low)

pub returns-then-m-i : goal.returns-then-m-i
returns-then-m-i c =
    let constraints : (ℕ → Constraint) = λ i. constraint_at c.args.file.now (c.args.start + 80 * i) in
    let past : c.args.m ≤ constraint_number (atom_of c.args.literal.0) = omega (arith, c.atom-atom.ensures) in
    sym (not_past constraints c.args.m c.args.d c.args.literal.0 past)

pub returns : goal.returns
returns c =
    let constraints : (ℕ → Constraint) = λ i. constraint_at c.args.file.now (c.args.start + 80 * i) in
    let atom-is = c.atom-atom.ensures in
    let high : 576 ≤ atom_of c.args.literal.0 = omega (arith, atom-is) in
    let below : constraint_number (atom_of c.args.literal.0) < c.args.m = omega (arith, atom-is) in
    c.is_multiple.ensures
    ∙ rw c.block_at.ensures
    (ap (λ (a : ℕ). is_multiple c.args.d (of_constraint (constraints (constraint_number a)))) atom-is)
    ∙ sym
    (says_multiple
    constraints
    c.args.m
    c.args.d
    c.args.literal.0
    (sym c.sign.ensures ∙ c.if-sign.false)
    high
    below)
