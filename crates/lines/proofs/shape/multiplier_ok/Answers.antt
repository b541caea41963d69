-- `lines::multiplier_ok` meets its contract: an arithmetic line, or any other.
use borrow.Author.Tests.{eq-eqb, ne_eqb}
use Rattle.lines.proofs.shape.multiplier_ok.Goals as goal

pub returns-then-kind-eq4 : goal.returns-then-kind-eq4
returns-then-kind-eq4 c = rw (eq-eqb _ _ c.if-kind-eq4.true) c.is_multiplier.ensures

pub returns-else-kind-eq4 : goal.returns-else-kind-eq4
returns-else-kind-eq4 c = rw (ne_eqb _ _ c.if-kind-eq4.false)
