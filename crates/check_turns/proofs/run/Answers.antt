-- `check_turns::run` meets its contract. The loop's invariant: the turns that are left take the record where all take the first.
use mathlib.Core.Path.{◌∙◌, ap}
use Prim.Native.Nat.{ℕ, ◌+◌, ◌/◌}
use lib.ListN.{length}
use Rattle.rules.specs.Turns.{turn_of}
use Rattle.rules.specs.Versions.{version2}
use Rattle.check_turns.proofs.Turning.{after, one_more, no_more}
use Rattle.check_turns.proofs.run.Goals as goal

pub loop-i-preserved : goal.loop-i-preserved
loop-i-preserved g c =
    let a = c.args in
    let node = a.node.now in
    let cert = a.cert.now in
    let turns = a.turns.now in
    let count = length turns / 8 in
    ap (λ (line : ℕ). after node cert turns line (c.loop-i.i + 1) count)
    (c.after_turn-progress.ensures ∙ ap (λ (quota : ℕ). (turn_of version2 node cert c.loop-i.progress.line quota).line) c.unsigned_at-in-loop-i.ensures)
    ∙ one_more node cert turns c.loop-i.progress.line c.loop-i.i count c.loop-i-test.true
    ∙ c.loop-i.invariant

pub returns : goal.returns
returns g c =
    let a = c.args in
    let count = length a.turns.now / 8 in
    no_more a.node.now a.cert.now a.turns.now c.loop-i.progress.line c.loop-i.i count c.loop-i-test.false
    ∙ c.loop-i.invariant
    ∙ ap (λ (line : ℕ). after a.node.now a.cert.now a.turns.now line 1 count) c.unsigned_at.ensures
