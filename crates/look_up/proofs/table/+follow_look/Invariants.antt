-- Each call is of a lower number: of a visit, and of a look-up.
use Rattle.look_up.specs.Looking.{look_rank, visit_rank}
use Rattle.look_up.proofs.table.+follow_look.Given as goal

abbrev pub decreases-follow : goal.decreases-follow
decreases-follow l = visit_rank l.file.now l.visit

abbrev pub decreases-look : goal.decreases-look
decreases-look l = look_rank l.file.now l.t l.s
