-- `lines::step_property_ok` meets its contract: at the last offset the property is negated, before it is not.
use borrow.Author.Tests.{eq-eqb, ne_eqb, le-leb, lt-leb}
use Rattle.rules.specs.Lines.{step_property_ok}
use Rattle.lines.proofs.property.step_property_ok.Goals as goal

pub returns-then-depth-h : goal.returns-then-depth-h
unfolding step_property_ok
returns-then-depth-h c = rw (lt-leb _ _ c.if-depth-h.true)

pub returns-then-h-depth : goal.returns-then-h-depth
unfolding step_property_ok
returns-then-h-depth c =
    rw (
      le-leb _ _ c.if-depth-h.false,
      eq-eqb _ _ c.if-h-depth.true,
      c.negative.ensures,
      c.var-atom.ensures,
      c.literal_at-literal.ensures,
    )

pub returns : goal.returns
unfolding step_property_ok
returns c =
    rw (
      le-leb _ _ c.if-depth-h.false,
      ne_eqb _ _ c.if-h-depth.false,
      c.positive.ensures,
      c.var-atom.ensures,
      c.literal_at-literal.ensures,
    )
