-- `certificate::is_unused_ok` meets its contract: the comparisons in a row.
use mir.Syntax.{w64}
use mir.ValLaws.{to_z-of_z}
use Rattle.constraints.specs.Rules.{unused_ok}
use Rattle.certificate.proofs.constraint_rules.is_unused_ok.Goals as goal

pub returns : goal.returns
unfolding unused_ok
returns c = rw (c.between.ensures, to_z-of_z w64 _ (record { sfits = c.struct_told-1.given.1.1.1.0.1 }))
