-- `lines::is_join` meets its contract: the four searches in a row, over the literals that each line lists.
use mathlib.Core.Path.{◌≡◌, refl, sym, ◌∙◌, ap}
use mathlib.Core.Bool.{Bool, ◌&&◌}
use mathlib.Core.List.{List}
use Prim.Native.Nat.{ℕ, ◌-◌, ◌≤◌}
use native.Mathlib.Nat.{sub-zero}
use Rattle.constraints.specs.Layout.{Line, line_at, listed_in}
use Rattle.constraints.proofs.Blocks.{listed_few}
use Rattle.literals.specs.Literals.{opposite_of}
use Rattle.rules.specs.Joins.{stands_from, stands_in, joins}
use Rattle.lines.proofs.joins.is_join.Goals as goal

-- as many as a line lists are at most twelve
few : (line : Line) (n : ℕ) → n ≡ listed_in line → n ≤ 12
few line n e = rw e (listed_few line)

pub stands_from-requires : goal.stands_from-requires
stands_from-requires c =
    let few_p : (c.listed_at-in_p.result ≤ 12) = few _ _ c.listed_at-in_p.ensures in
    (c.requires.0, few_p)

pub stands_from-requires-2 : goal.stands_from-requires-2
stands_from-requires-2 c =
    let few_q : (c.listed_at-in_q.result ≤ 12) = few _ _ c.listed_at-in_q.ensures in
    (c.requires.1, few_q)

-- a search over as many literals as a line lists is one in the line
searched : (line : Line) (l m n : ℕ) → l ≡ m → n ≡ listed_in line → stands_from line.literal l 0 (n - 0) ≡ stands_in line m
searched line l m n e f = rw (e, f, sub-zero)

pub returns-then-not-stands_from : goal.returns-then-not-stands_from
unfolding joins
returns-then-not-stands_from c =
    let bytes : (List ℕ) = c.args.file.now in
    let p : (Line) = line_at bytes c.args.p in
    let q : (Line) = line_at bytes c.args.q in
    let r : (ℕ) = c.args.r.0 in
    let in_p_is : (c.stands_from.result ≡ stands_in p r) = c.stands_from.ensures ∙ searched p r r _ refl c.listed_at-in_p.ensures in
    let in_q_is : (c.stands_from-2.result ≡ stands_in q (opposite_of r)) = c.stands_from-2.ensures ∙ searched q _ (opposite_of r) _ c.opposite-s.ensures c.listed_at-in_q.ensures in
    let both_are : ((c.stands_from.result && c.stands_from-2.result) ≡ (stands_in p r && stands_in q (opposite_of r))) = ap (λ (t : Bool). t && c.stands_from-2.result) in_p_is ∙ ap (λ (t : Bool). stands_in p r && t) in_q_is in
    rw (sym both_are ∙ c.if-not-stands_from.true)

pub covers-requires : goal.covers-requires
covers-requires c =
    let few_p : (c.listed_at-in_p.result ≤ 12) = few _ _ c.listed_at-in_p.ensures in
    let few_here : (c.listed_at-here.result ≤ 12) = few _ _ c.listed_at-here.ensures in
    let asked = c.requires in
    (asked.0, few_p, asked.2, few_here)

pub covers-requires-2 : goal.covers-requires-2
covers-requires-2 c =
    let few_q : (c.listed_at-in_q.result ≤ 12) = few _ _ c.listed_at-in_q.ensures in
    let few_here : (c.listed_at-here.result ≤ 12) = few _ _ c.listed_at-here.ensures in
    let asked = c.requires in
    (asked.1, few_q, asked.2, few_here)

pub returns : goal.returns
unfolding joins
returns c =
    let bytes : (List ℕ) = c.args.file.now in
    let p : (Line) = line_at bytes c.args.p in
    let q : (Line) = line_at bytes c.args.q in
    let r : (ℕ) = c.args.r.0 in
    let in_p_is : (c.stands_from.result ≡ stands_in p r) = c.stands_from.ensures ∙ searched p r r _ refl c.listed_at-in_p.ensures in
    let in_q_is : (c.stands_from-2.result ≡ stands_in q (opposite_of r)) = c.stands_from-2.ensures ∙ searched q _ (opposite_of r) _ c.opposite-s.ensures c.listed_at-in_q.ensures in
    let both_are : ((c.stands_from.result && c.stands_from-2.result) ≡ (stands_in p r && stands_in q (opposite_of r))) = ap (λ (t : Bool). t && c.stands_from-2.result) in_p_is ∙ ap (λ (t : Bool). stands_in p r && t) in_q_is in
    rw (
      sym both_are ∙ c.if-not-stands_from.false,
      c.covers.ensures,
      c.covers-2.ensures,
      c.listed_at-here.ensures,
      c.listed_at-in_q.ensures,
      c.listed_at-in_p.ensures,
      c.opposite-s.ensures,
    )
