-- `arithmetic::bound_of` meets its contract. The loop's invariant: the bounds of the literals passed are added.
use mathlib.Core.Path.{refl}
use native.Mathlib.Omega.{arith}
use mir.Syntax.{w64}
use mir.Val.{to_z}
use Rattle.rules.specs.Arithmetic.{sum_of}
use Rattle.arithmetic.proofs.Turns.{bound_fits, bound_turn}
use Rattle.arithmetic.proofs.sums.bound_of.Goals as goal

pub loop-j-init : goal.loop-j-init
unfolding sum_of
loop-j-init c = refl

pub overflow_add-bound : goal.overflow_add-bound
overflow_add-bound c =
    bound_fits c.args.file.now c.args.start c.args.at c.loop-j.j (omega arith)
    (λ i l. c.requires.by_index i (omega arith))
    c.bound_at-bound.result
    (to_z w64 c.loop-j.bound-bits)
    c.bound_at-bound.ensures
    c.loop-j.invariant

pub loop-j-preserved : goal.loop-j-preserved
loop-j-preserved c =
    bound_turn c.args.file.now c.args.start c.args.at c.loop-j.j (omega arith)
    (λ i l. c.requires.by_index i (omega arith))
    c.bound_at-bound.result
    (to_z w64 c.loop-j.bound-bits)
    c.bound_at-bound.ensures
    c.loop-j.invariant
