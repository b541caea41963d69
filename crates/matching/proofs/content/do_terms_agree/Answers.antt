-- `matching::do_terms_agree` meets its contract: both agree at the variable of each term.
use mathlib.Core.Path.{refl, sym, ◌∙◌}
use Rattle.std.proofs.Common.{rules, tests}
use Rattle.answers.proofs.Ranges.{every_from_all}
use Rattle.constraints.specs.Layout.{term_at, constraint_at}
use Rattle.constraints.specs.Linear.{monomial, written}
use Rattle.rules.specs.Clauses.{bounded_of}
use Rattle.matching.specs.Content.{agree}
use Rattle.matching.proofs.Coefficients.{agree_every}
use Rattle.matching.proofs.content.do_terms_agree.Goals as goal

pub returns : goal.returns
returns c =
    let a = c.args in
    let file = a.file.now in
    every_from_all (λ j. agree (written (constraint_at file a.at) a.count) (bounded_of a.d).form (monomial (term_at file a.at j)).of) a.count
    c.all.ensures.ran refl (λ x y q k. search (rules, tests))
    ∙ sym (agree_every (written (constraint_at file a.at) a.count) (bounded_of a.d).form (constraint_at file a.at) a.count)
