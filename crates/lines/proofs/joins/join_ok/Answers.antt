-- `lines::join_ok` meets its contract: where both lines are lower ones of the part, they lie within the file.
use mathlib.Core.Path.{◌≡◌, ◌∙◌, ap}
use mathlib.Core.Bool.{true, ◌&&◌}
use Prim.Native.Nat.{◌<◌}
use native.Mathlib.Omega.{arith}
use borrow.Author.Tests.{ltb-true}
use lib.Dec.{leb, ltb}
use Rattle.answers.proofs.Tests.{both_true}
use Rattle.constraints.specs.declared.layout.LineHead.{LineHead}
use Rattle.constraints.specs.Layout.{line_head_at}
use Rattle.rules.specs.Joins.{is_lower, joins, join_ok}
use Rattle.lines.specs.Frame.{lines_at}
use Rattle.lines.proofs.joins.join_ok.Goals as goal

pub returns-then-not-from-p : goal.returns-then-not-from-p
unfolding join_ok
returns-then-not-from-p c =
    let head_is : (c.line_head-head.result ≡ (lines_at c.args.file.now c.args.lines c.args.i).head) = c.line_head-head.ensures ∙ ap (line_head_at c.args.file.now) c.block_at-at.ensures in
    let lower_is : (let a = c.args in let h = (lines_at a.file.now a.lines a.i).head in (is_lower a.from a.i h.p && is_lower a.from a.i h.q) ≡ (leb a.from c.line_head-head.result.p && ltb c.line_head-head.result.p a.i && (leb a.from c.line_head-head.result.q && ltb c.line_head-head.result.q a.i))) = rw head_is in
    rw (lower_is ∙ c.if-not-from-p.true)

pub block_at-requires : goal.block_at-requires
block_at-requires c =
    let passed : (let a = c.args in let h = c.line_head-head.result in ((leb a.from h.p && ltb h.p a.i) ≡ true) × ((leb a.from h.q && ltb h.q a.i) ≡ true)) = let a = c.args in
    let h = c.line_head-head.result in
    both_true (leb a.from h.p && ltb h.p a.i) (leb a.from h.q && ltb h.q a.i) (c.if-not-from-p.false) in
    let p_lower : (c.line_head-head.result.p < c.args.i) = ltb-true _ _ (both_true (leb c.args.from c.line_head-head.result.p) _ passed.0).1 in
    omega (arith, c.requires, p_lower)

pub block_at-requires-2 : goal.block_at-requires-2
block_at-requires-2 c =
    let passed : (let a = c.args in let h = c.line_head-head.result in ((leb a.from h.p && ltb h.p a.i) ≡ true) × ((leb a.from h.q && ltb h.q a.i) ≡ true)) = let a = c.args in
    let h = c.line_head-head.result in
    both_true (leb a.from h.p && ltb h.p a.i) (leb a.from h.q && ltb h.q a.i) (c.if-not-from-p.false) in
    let q_lower : (c.line_head-head.result.q < c.args.i) = ltb-true _ _ (both_true (leb c.args.from c.line_head-head.result.q) _ passed.1).1 in
    omega (arith, c.requires, q_lower)

pub is_join-requires : goal.is_join-requires
is_join-requires c =
    let passed : (let a = c.args in let h = c.line_head-head.result in ((leb a.from h.p && ltb h.p a.i) ≡ true) × ((leb a.from h.q && ltb h.q a.i) ≡ true)) = let a = c.args in
    let h = c.line_head-head.result in
    both_true (leb a.from h.p && ltb h.p a.i) (leb a.from h.q && ltb h.q a.i) (c.if-not-from-p.false) in
    let p_lower : (c.line_head-head.result.p < c.args.i) = ltb-true _ _ (both_true (leb c.args.from c.line_head-head.result.p) _ passed.0).1 in
    let q_lower : (c.line_head-head.result.q < c.args.i) = ltb-true _ _ (both_true (leb c.args.from c.line_head-head.result.q) _ passed.1).1 in
    let room = c.requires in
    rw (c.block_at-2.ensures, c.block_at.ensures, c.block_at-at.ensures)
    (omega (arith, room, p_lower), omega (arith, room, q_lower), omega (arith, room))

pub returns : goal.returns
unfolding join_ok
returns c =
    let head_is : (c.line_head-head.result ≡ (lines_at c.args.file.now c.args.lines c.args.i).head) = c.line_head-head.ensures ∙ ap (line_head_at c.args.file.now) c.block_at-at.ensures in
    let lower_is : (let a = c.args in let h = (lines_at a.file.now a.lines a.i).head in (is_lower a.from a.i h.p && is_lower a.from a.i h.q) ≡ (leb a.from c.line_head-head.result.p && ltb c.line_head-head.result.p a.i && (leb a.from c.line_head-head.result.q && ltb c.line_head-head.result.q a.i))) = rw head_is in
    let a = c.args in
    let s = a.file.now in
    let at = a.lines in
    c.is_join.ensures
    ∙ rw (c.block_at-2.ensures, c.block_at.ensures, c.block_at-at.ensures, lower_is ∙ c.if-not-from-p.false)
    (ap (λ (h : LineHead). joins (lines_at s at h.p) (lines_at s at h.q) h.r (lines_at s at a.i))
    head_is)
