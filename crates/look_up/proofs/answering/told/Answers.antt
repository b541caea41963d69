-- `look_up::told` meets its contract: the recursion, from the table of the history.
use mathlib.Core.Path.{subst}
use Prim.Native.Nat.{ℕ}
use native.Mathlib.Omega.{arith}
use Rattle.node.proofs.Outcomes.{is_accepted_is}
use Rattle.look_up.specs.Looking.{HoldsHistory}
use Rattle.look_up.proofs.Answers.{in_history, told_by}
use Rattle.look_up.proofs.Rows.{history_none}
use Rattle.look_up.proofs.answering.told.Goals as goal

pub filled-requires : goal.filled-requires
filled-requires c = ((in_history _ _ _ _ c.requires).short, history_none _ _ _)

pub look-requires : goal.look-requires
look-requires c =
    let i = in_history _ _ _ _ c.requires in
    record { accepts = c.args.history.now.accepted; count = c.args.history.now.streams; early = omega (arith, i.instant_in, i.short); below = i.stream_in }

pub returns : goal.returns
returns c =
    let h = c.args.history.now in
    let holds = subst (λ (k : ℕ). HoldsHistory h.file.now h.count h.inputs.now k c.filled.new.table) h.streams c.filled.ensures in
    told_by _ (is_accepted_is _ h.accepted) _ _ _ _ (in_history _ _ _ _ (rw h.streams at c.requires)) holds c.look.ensures
