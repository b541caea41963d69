-- `certificate::types_of` meets its contract. The loop's invariant: the streams passed are in the list, the others are 2.
use mathlib.Core.Path.{◌≡◌, refl, ◌∙◌, ap}
use Prim.Native.Nat.{ℕ, ◌<◌}
use native.Mathlib.Omega.{arith}
use borrow.Author.Rules.{rules}
use lib.ListN.{length, length-set}
use Rattle.answers.proofs.Prefix.{none_set, one_more_set}
use Rattle.node.specs.Equations.{byte_of, type_at}
use Rattle.node.proofs.Records.{type_among_is}
use Rattle.rules.specs.Types.{types_below}
use Rattle.certificate.proofs.types.types_of.Goals as goal

pub loop-i-init : goal.loop-i-init
loop-i-init c = (search rules, refl, none_set _ 2 64)

pub loop-i-preserved : goal.loop-i-preserved
loop-i-preserved c =
    let inv = c.loop-i.invariant in
    let within : c.loop-i.i < length c.loop-i.types = omega (arith, c.loop-i-test.true, inv.1, c.requires.0) in (
      search rules,
      simp length-set inv.1,
      one_more_set (λ (x : ℕ). byte_of (type_at c.args.file.now x)) 2 c.loop-i.types c.loop-i.i c.byte_of.result within (c.byte_of.ensures ∙ ap byte_of (c.type_among.ensures ∙ type_among_is _ _ c.requires.1 _)) inv.2,
    )

pub returns : goal.returns
returns c =
    let i-is : c.loop-i.i ≡ c.args.n = omega arith in
    record { long = c.loop-i.invariant.1; types = λ x. c.loop-i.invariant.2 x ∙ ap (λ (k : ℕ). types_below c.args.file.now k x) i-is }
