-- `ranges::Ranged::is_listed` meets its contract: in each arm the type is known.
use mathlib.Core.Path.{◌≡◌, sym, ◌∙◌, ap₂}
use Rattle.node.specs.Equations.{type_at}
use borrow.Author.Rules.{rules}
use Rattle.node.specs.Layout.{records_of}
use Rattle.node.proofs.Records.{type_among_is, equation_among_is}
use Rattle.ranges.specs.Results.{ends, all_inside}
use Rattle.ranges.specs.Table.{range_in}
use Rattle.ranges.proofs.Tables.{bool_listed, int_listed}
use Rattle.ranges.proofs.listing.Ranged.is_listed.Goals as goal

pub returns-in-Bool : goal.returns-in-Bool
returns-in-Bool c =
    let counted : c.args.self.now.n ≡ records_of c.args.self.now.file.now = search rules in
    let type_is : (c.type_among.result ≡ type_at c.args.self.now.file.now c.args.i) = c.type_among.ensures ∙ type_among_is _ _ counted _ in
    sym (bool_listed _ _ _ (sym type_is ∙ c.in-Bool.is))

pub returns-in-Int : goal.returns-in-Int
returns-in-Int c =
    let counted : c.args.self.now.n ≡ records_of c.args.self.now.file.now = search rules in
    let type_is : (c.type_among.result ≡ type_at c.args.self.now.file.now c.args.i) = c.type_among.ensures ∙ type_among_is _ _ counted _ in
    let listed = int_listed _ _ _ (sym type_is ∙ c.in-Int.is) in
    c.results_inside.ensures
    ∙ ap₂ (λ own e. all_inside own (ends e (range_in c.args.self.now.table.now))) c.range_at-own.ensures (c.equation_among.ensures ∙ equation_among_is _ _ counted _)
    ∙ sym listed
