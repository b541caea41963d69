-- `certificate::constraint_ok` meets its contract: the tests in a row, of the fields that were read.
use mir.Syntax.{w64}
use mir.ValLaws.{to_z-of_z}
use Rattle.constraints.specs.Rules.{constraint_ok}
use Rattle.certificate.proofs.constraint_rules.constraint_ok.Goals as goal

pub returns : goal.returns
unfolding constraint_ok
returns c =
    rw (
      c.are_terms_ok.ensures,
      c.between.ensures,
      to_z-of_z w64 _ (record { sfits = c.struct_told-1.given.1.1.0.1 }),
      c.constraint_head-head.ensures,
    )
