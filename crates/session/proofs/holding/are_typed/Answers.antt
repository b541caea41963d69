-- `session::are_typed` meets its contract. The loop's invariant: each value passed fits its type.
use mathlib.Core.Path.{◌≡◌, sym, ◌∙◌}
use Rattle.answers.proofs.Every.{every_none, every_more, every_not}
use Rattle.node.proofs.Records.{type_among_is}
use Rattle.streams.proofs.Typed.{typed_is}
use Rattle.session.specs.Records.{value_typed}
use borrow.Author.Rules.{rules}
use Rattle.session.proofs.holding.are_typed.Goals as goal

pub loop-i-init : goal.loop-i-init
loop-i-init c = every_none _

pub returns-then-not-is_typed : goal.returns-then-not-is_typed
returns-then-not-is_typed c =
    let typed_made : (c.is_typed.result ≡ value_typed c.args.file.now c.args.values.now c.loop-i.i) = let type_is = c.type_among.ensures ∙ type_among_is _ _ c.requires _ in
    typed_is _ _ c.number_at.result _ (search rules) type_is c.number_at.ensures c.is_typed.ensures in
    sym (every_not _ _ _ c.loop-i-test.true (sym typed_made ∙ c.if-not-is_typed.true))

pub loop-i-preserved : goal.loop-i-preserved
loop-i-preserved c =
    let typed_made : (c.is_typed.result ≡ value_typed c.args.file.now c.args.values.now c.loop-i.i) = let type_is = c.type_among.ensures ∙ type_among_is _ _ c.requires _ in
    typed_is _ _ c.number_at.result _ (search rules) type_is c.number_at.ensures c.is_typed.ensures in
    every_more _ _ c.loop-i.invariant (sym typed_made ∙ c.if-not-is_typed.false)
