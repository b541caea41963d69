-- `arithmetic::are_terms_zero` meets its contract: the sum at each term is 0.
use mathlib.Core.Path.{ap}
use Prim.Native.Nat.{ℕ}
use Rattle.std.proofs.Common.{◌≡◌, rules, tests}
use Rattle.std.proofs.iter.Serving.{serving}
use Rattle.answers.proofs.Ranges.{every_from_all}
use Rattle.constraints.specs.Layout.{constraint_at, used_in}
use Rattle.arithmetic.specs.Sums.{zero_at}
use Rattle.arithmetic.proofs.Turns.{count_used}
use Rattle.arithmetic.proofs.terms.are_terms_zero.Goals as goal

pub all-requires-clause-callable : goal.all-requires-clause-callable
all-requires-clause-callable c =
    let used : c.constraint_head-head.result.count ≡ used_in (constraint_at c.args.file.now c.args.at) =
    count_used c.args.file.now c.args.at c.requires.summable _ c.constraint_head-head.ensures in
    grind (serving, used)

pub returns : goal.returns
returns c =
    let a = c.args in
    every_from_all (zero_at a.sums.now (constraint_at a.file.now a.at)) (used_in (constraint_at a.file.now a.at)) c.all.ensures.ran
    (ap (λ (n : ℕ). record { start = 0; end = n }) (count_used a.file.now a.at c.requires.summable _ c.constraint_head-head.ensures))
    (λ x y q k. search (rules, tests))
