-- `ranges::are_ok` meets its contract: `all` asks of each stream what `every` does.
use mathlib.Core.Path.{refl}
use Rattle.std.proofs.Common.{rules, tests}
use Rattle.answers.proofs.Ranges.{every_from_all}
use Rattle.node.proofs.Records.{type_among_is}
use Rattle.ranges.specs.Listing.{ends_ok}
use Rattle.ranges.proofs.listing.are_ok.Goals as goal

pub returns : goal.returns
returns c = every_from_all (ends_ok c.args.file.now c.args.table.now) c.args.n c.all.ensures.ran refl (λ x y q k. search (rules, tests, type_among_is _ _ c.requires.0 x))
