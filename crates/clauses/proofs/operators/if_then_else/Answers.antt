-- `clauses::if_then_else` meets its contract: from number 2 on the clauses are the second branch's.
use Rattle.clauses.proofs.Numbering.{second_branch}
use Rattle.clauses.proofs.operators.if_then_else.Goals as goal

pub returns-else-r-lt2 : goal.returns-else-r-lt2
returns-else-r-lt2 c = rw (c.guarded-else-r-lt2.ensures, c.same_as-else-r-lt2.ensures) (second_branch _ _ c.args.ty c.args.s c.args.a _ c.args.r c.if-r-lt2.false)
