-- `arithmetic::weighted_at` meets its contract: the coefficient of the term that was read, times the factor.
use mathlib.Core.Path.{◌≡◌, ◌∙◌, ap, ap₂}
use native.Mathlib.Omega.{arith}
use lib.IntN.{◌*ℤ◌}
use mir.Syntax.{w64}
use mir.Val.{SFits}
use mir.Facts.{to_z-of_z}
use Rattle.integers.proofs.Reading.{rd}
use Rattle.constraints.specs.declared.layout.Term.{Term}
use borrow.Author.Rules.{rules}
use Rattle.arithmetic.proofs.terms.weighted_at.Goals as goal

coefficient_is : (t u : Term) → SFits w64 t.coefficient → t ≡ u → rd w64 t.coefficient ≡ u.coefficient
coefficient_is t u f e = to_z-of_z f ∙ ap (λ (t : Term). t.coefficient) e

pub product-requires : goal.product-requires
product-requires c =
    let read =
    coefficient_is c.term_at-term.result _ (record { sfits = c.struct_told-1.given.1.1.1.0.1 })
    c.term_at-term.ensures in
    (rw (to_z-of_z c.ranges.factor) c.requires.factor_bound.0, rw read (omega (arith, c.requires.factor_bound.1)))

pub returns : goal.returns
returns c =
    let f : SFits w64 c.product.result = search rules in
    let read =
    coefficient_is c.term_at-term.result _ (record { sfits = c.struct_told-1.given.1.1.1.0.1 })
    c.term_at-term.ensures in
    to_z-of_z f ∙ c.product.ensures ∙ ap₂ ◌*ℤ◌ (to_z-of_z c.ranges.factor) read
