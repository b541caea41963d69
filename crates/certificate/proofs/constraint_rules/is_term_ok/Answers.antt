-- `certificate::is_term_ok` meets its contract: the tests that led to each way out say which case of `termOk` holds.
use mathlib.Core.Path.{sym, ◌∙◌, ap, ap₂}
use mathlib.Core.Bool.{◌&&◌, and-true}
use borrow.Author.Tests.{le-leb, lt-leb, eq-eqb, ne_eqb}
use Rattle.constraints.specs.Rules.{used_ok, unused_ok, rises, term_ok}
use Rattle.certificate.proofs.constraint_rules.is_term_ok.Goals as goal

pub returns-then-count-j : goal.returns-then-count-j
unfolding term_ok
returns-then-count-j c = rw (le-leb _ _ c.if-count-j.true) (c.is_unused_ok.ensures ∙ ap unused_ok c.term_at-term.ensures)

pub returns-then-j-eq0 : goal.returns-then-j-eq0
unfolding term_ok
returns-then-j-eq0 c =
    rw (lt-leb _ _ c.if-count-j.false, eq-eqb _ _ c.if-j-eq0.true)
    (c.is_used_ok.ensures ∙ ap (used_ok _ _) c.term_at-term.ensures ∙ sym (and-true _))

pub returns : goal.returns
unfolding term_ok
returns c =
    rw (lt-leb _ _ c.if-count-j.false, ne_eqb _ _ c.if-j-eq0.false)
    (ap₂ ◌&&◌ (c.is_used_ok-2.ensures ∙ ap (used_ok _ _) c.term_at-term.ensures)
    (c.is_rising.ensures ∙ ap₂ rises c.term_at.ensures c.term_at-term.ensures))
