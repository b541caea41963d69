-- `constraints::bytes::zeros_at` meets its contract: what `all` answers, byte by byte.
use mathlib.Core.Path.{◌∙◌}
use Prim.Native.Nat.{◌+◌, ◌-◌}
use native.Mathlib.Omega.{arith}
use lib.Dec.{eqb}
use Rattle.std.proofs.Common.{rules, tests, take, drop}
use Rattle.std.proofs.lemmas.Iterator.{YieldsList-from_slice}
use Rattle.std.proofs.lemmas.Iterator.Search.{all_from_yields_List}
use Rattle.constraints.proofs.Zeros.{zeros_from}
use Rattle.constraints.proofs.bytes.zeros_at.Goals as goal

pub returns : goal.returns
returns c =
    let from = c.args.at in
    let bytes = take (c.args.at + c.args.count - from) (drop from c.args.s.now) in
    all_from_yields_List (λ b. eqb b 0) _ _ _ c.all.ensures.ran (YieldsList-from_slice bytes (search rules)) (λ x b q k. search (rules, tests))
    ∙ zeros_from c.args.s.now c.args.at c.args.count (omega arith) c.requires
