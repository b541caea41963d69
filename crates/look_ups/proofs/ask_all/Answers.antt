-- `look_ups::ask_all` meets its contract.
use Rattle.look_ups.proofs.Counting.{one_more, no_more}
use Rattle.look_ups.proofs.ask_all.Goals as goal

pub loop-i-preserved : goal.loop-i-preserved
loop-i-preserved g c = one_more _ _ _ _ _ _ _ c.loop-i-test.true c.ask-values.ensures c.loop-i.invariant

pub returns : goal.returns
returns g c = rw (← c.pairs_of-i-end.ensures) (no_more _ _ _ _ _ _ c.loop-i-test.false c.loop-i.invariant)
