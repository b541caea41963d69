-- `lines::equation_ok` meets its contract: the clause that is looked up is that of the stream and offset that were read.
use mathlib.Core.Path.{◌≡◌, sym, ◌∙◌, ap}
use mathlib.Core.Bool.{true, ◌&&◌}
use mathlib.Core.List.{List}
use Prim.Native.Nat.{ℕ, ◌-◌, ◌<◌}
use native.Mathlib.Omega.{arith}
use borrow.Author.Tests.{ltb-true}
use lib.Dec.{ltb}
use Rattle.answers.proofs.Tests.{both_true}
use Rattle.node.specs.Equations.{type_at, equation_at}
use Rattle.node.proofs.Records.{type_among_is, equation_among_is}
use Rattle.constraints.specs.declared.layout.LineHead.{LineHead}
use Rattle.constraints.specs.Layout.{line_head_at, line_at, constraints_from}
use Rattle.constraints.specs.Linear.{variable}
use Rattle.rules.specs.declared.pattern.Position.{Position}
use Rattle.rules.specs.Clauses.{clauses, numbered}
use Rattle.rules.specs.Lines.{position_of, literals_are, equation_in}
use Rattle.rules.specs.Versions.{version2}
use Rattle.rules.proofs.ClauseLiterals.{Each}
use Rattle.clauses.specs.Limits.{SmallPattern}
use Rattle.clauses.proofs.Limits.{small_clauses, small_named}
use Rattle.lines.proofs.equations.equation_ok.Goals as goal
use Rattle.std.specs.Prelude.{Option}
use Rattle.rules.specs.declared.pattern.Clause.{Clause}

-- the clause that a line's head names
abbrev named : List ℕ → Position → LineHead → Option Clause
named node opening h =
    numbered (clauses version2 (type_at node h.p) (equation_at node h.p) (position_of opening h.q) (variable h.q) (variable (h.q - 1)) (variable h.q h.p)) h.r

pub returns-then-not-p-n : goal.returns-then-not-p-n
unfolding equation_in
returns-then-not-p-n c =
    let inside : (let a = c.args in let h = line_head_at a.cert.now a.at in (ltb h.p a.f.streams && ltb h.q a.offsets) ≡ (ltb c.line_head-h.result.p a.f.streams && ltb c.line_head-h.result.q a.offsets)) = let a = c.args in ap (λ (h : LineHead). ltb h.p a.f.streams && ltb h.q a.offsets) (sym c.line_head-h.ensures) in
    rw (inside ∙ c.if-not-p-n.true)

pub overflow_cast-q-2 : goal.overflow_cast-q-2
overflow_cast-q-2 c =
    let passed : (let a = c.args in let h = c.line_head-h.result in (ltb h.p a.f.streams ≡ true) × (ltb h.q a.offsets ≡ true)) = both_true _ (ltb c.line_head-h.result.q c.args.offsets) (c.if-not-p-n.false) in
    let q_below : (c.line_head-h.result.q < c.args.offsets) = ltb-true _ _ passed.1 in
    omega (arith, q_below, c.requires.constants_limited.1)

pub is_clause-requires : goal.is_clause-requires
is_clause-requires c =
    let passed : (let a = c.args in let h = c.line_head-h.result in (ltb h.p a.f.streams ≡ true) × (ltb h.q a.offsets ≡ true)) = both_true _ (ltb c.line_head-h.result.q c.args.offsets) (c.if-not-p-n.false) in
    let p_below : (c.line_head-h.result.p < c.args.f.streams) = ltb-true _ _ passed.0 in
    let named_is : (let a = c.args in c.clause_of.result ≡ named a.node.now a.opening c.line_head-h.result) = let counted = c.requires.constants_limited.2 in
    c.clause_of.ensures
    ∙ rw (c.equation_among.ensures ∙ equation_among_is _ _ counted _, c.type_among.ensures ∙ type_among_is _ _ counted _, c.position_of-place.ensures) in
    let small : (Each SmallPattern c.in-Some.c) = let h = c.line_head-h.result in
    let node = c.args.node.now in
    small_named
    (clauses version2 (type_at node h.p) (equation_at node h.p) (position_of c.args.opening h.q) (variable h.q) (variable (h.q - 1)) (variable h.q h.p))
    h.r c.in-Some.c
    (small_clauses (variable h.q) (variable (h.q - 1)) (variable h.q h.p) (type_at node h.p) (equation_at node h.p)
    (position_of c.args.opening h.q) (c.requires.constants_limited.0 h.p p_below))
    (sym named_is ∙ c.in-Some.is) in
    let f = small in
    record { readable = c.requires.readable; small_pattern = (f.first, f.second, f.third) }

pub returns-in-Some : goal.returns-in-Some
unfolding equation_in
returns-in-Some c =
    let inside : (let a = c.args in let h = line_head_at a.cert.now a.at in (ltb h.p a.f.streams && ltb h.q a.offsets) ≡ (ltb c.line_head-h.result.p a.f.streams && ltb c.line_head-h.result.q a.offsets)) = let a = c.args in ap (λ (h : LineHead). ltb h.p a.f.streams && ltb h.q a.offsets) (sym c.line_head-h.ensures) in
    let named_is : (let a = c.args in c.clause_of.result ≡ named a.node.now a.opening c.line_head-h.result) = let counted = c.requires.constants_limited.2 in
    c.clause_of.ensures
    ∙ rw (c.equation_among.ensures ∙ equation_among_is _ _ counted _, c.type_among.ensures ∙ type_among_is _ _ counted _, c.position_of-place.ensures) in
    let looked_up_is : (let a = c.args in named a.node.now a.opening (line_head_at a.cert.now a.at) ≡ c.clause_of.result) = let a = c.args in
    ap (named a.node.now a.opening) (sym c.line_head-h.ensures) ∙ sym named_is in
    let a = c.args in
    let line = line_at a.cert.now a.at in
    rw (inside ∙ c.if-not-p-n.false)
    (c.is_clause.ensures
    ∙ ap (literals_are (constraints_from a.cert.now a.f.start) a.f.constraints line) (sym (looked_up_is ∙ c.in-Some.is)))

pub returns-in-None : goal.returns-in-None
unfolding equation_in
returns-in-None c =
    let inside : (let a = c.args in let h = line_head_at a.cert.now a.at in (ltb h.p a.f.streams && ltb h.q a.offsets) ≡ (ltb c.line_head-h.result.p a.f.streams && ltb c.line_head-h.result.q a.offsets)) = let a = c.args in ap (λ (h : LineHead). ltb h.p a.f.streams && ltb h.q a.offsets) (sym c.line_head-h.ensures) in
    let named_is : (let a = c.args in c.clause_of.result ≡ named a.node.now a.opening c.line_head-h.result) = let counted = c.requires.constants_limited.2 in
    c.clause_of.ensures
    ∙ rw (c.equation_among.ensures ∙ equation_among_is _ _ counted _, c.type_among.ensures ∙ type_among_is _ _ counted _, c.position_of-place.ensures) in
    let looked_up_is : (let a = c.args in named a.node.now a.opening (line_head_at a.cert.now a.at) ≡ c.clause_of.result) = let a = c.args in
    ap (named a.node.now a.opening) (sym c.line_head-h.ensures) ∙ sym named_is in
    let a = c.args in
    let line = line_at a.cert.now a.at in
    rw (inside ∙ c.if-not-p-n.false)
    (ap (literals_are (constraints_from a.cert.now a.f.start) a.f.constraints line) (sym (looked_up_is ∙ c.in-None.is)))
