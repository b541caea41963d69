-- `session::session_on` meets its contract: the file without its note, before instant 0.
use native.Mathlib.Omega.{arith}
use Rattle.node.proofs.Notes.{accepted_room}
use Rattle.session.proofs.Beginnings.{few_streams, begun_is}
use Rattle.session.proofs.beginning.session_on.Goals as goal

pub overflow_mul-length : goal.overflow_mul-length
overflow_mul-length c = omega (arith, few_streams _ c.requires)

pub overflow_add-length : goal.overflow_add-length
overflow_add-length c = omega (arith, few_streams _ c.requires)

pub overflow_sub-file : goal.overflow_sub-file
overflow_sub-file c = accepted_room _ c.requires

pub copy_from-file-requires : goal.copy_from-file-requires
copy_from-file-requires c = (omega arith, omega (arith, few_streams _ c.requires))

pub returns : goal.returns
returns c = begun_is _ c.requires _ c.copy_from-file.ensures
