-- `certificate::is_used_ok` meets its contract: the tests in a row.
use mir.Syntax.{w64}
use mir.ValLaws.{to_z-of_z}
use Rattle.constraints.specs.Rules.{used_ok}
use Rattle.certificate.proofs.constraint_rules.is_used_ok.Goals as goal

pub returns : goal.returns
unfolding used_ok
returns c =
    rw (
      c.between-2.ensures,
      c.between.ensures,
      to_z-of_z w64 _ (record { sfits = c.struct_told-1.given.1.1.1.0.1 }),
      c.type_at-its_type.ensures,
    )
