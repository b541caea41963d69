-- `certificate::are_terms_ok` meets its contract: each term keeps the rule.
use mathlib.Core.Path.{refl}
use Rattle.std.proofs.Common.{rules, tests}
use Rattle.answers.proofs.Ranges.{every_from_all}
use Rattle.constraints.specs.Layout.{term_at}
use Rattle.constraints.specs.Rules.{types_of, term_ok}
use Rattle.certificate.proofs.constraint_rules.are_terms_ok.Goals as goal

pub returns : goal.returns
returns c =
    let a = c.args in
    every_from_all (term_ok (types_of a.types.now) a.k a.count (term_at a.file.now a.at)) 8 c.all.ensures.ran refl (λ x y q k. search (rules, tests))
