-- `arithmetic::is_rounded` meets its contract: the bound and the sum that were read.
use mathlib.Core.Path.{◌≡◌}
use native.Mathlib.Omega.{arith}
use mir.Syntax.{w64}
use Rattle.integers.proofs.Reading.{rd}
use Rattle.constraints.specs.Layout.{head_at}
use Rattle.arithmetic.specs.Sums.{place_of}
use Rattle.arithmetic.proofs.Cutting.{few, divisor, each_usable}
use Rattle.arithmetic.proofs.Words.{bound_read}
use Rattle.arithmetic.proofs.cuts.is_rounded.Goals as goal

pub place_of-requires : goal.place_of-requires
place_of-requires c = each_usable _ _ _ _ _ c.requires c.args.last (omega arith)

pub constraint_head-head-requires : goal.constraint_head-head-requires
constraint_head-head-requires c = rw c.place_of.ensures (each_usable _ _ _ _ _ c.requires c.args.last (omega arith)).summable.room

pub bound_of-sum-requires : goal.bound_of-sum-requires
bound_of-sum-requires c = record { count_bound = omega (arith, few _ _ _ _ _ c.requires); by_index = λ j l. each_usable _ _ _ _ _ c.requires j (omega arith) }

pub is_floor-requires : goal.is_floor-requires
is_floor-requires c =
    let read : (rd w64 c.constraint_head-head.result.bound ≡ (head_at c.args.file.now (place_of c.args.file.now c.args.start c.args.at c.args.last)).bound) = bound_read c.args.file.now c.constraint_head-head.result c.place_of.result _
    (record { sfits = c.struct_told-1.given.1.1.0.1 })
    c.constraint_head-head.ensures
    c.place_of.ensures in (
      divisor _ _ _ _ _ c.requires,
      rw read (each_usable _ _ _ _ _ c.requires c.args.last (omega arith)).summable.limited.bound,
    )
