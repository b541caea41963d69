-- `node::in_record_order` meets its contract: `all` over the records tests each.
use mathlib.Core.Path.{refl}
use Rattle.std.proofs.Common.{rules, tests}
use Rattle.answers.proofs.Ranges.{every_from_all}
use Rattle.node.specs.Layout.{record_of}
use Rattle.node.specs.Ordering.{lower_ok}
use Rattle.node.proofs.ordering.in_record_order.Goals as goal

pub returns : goal.returns
returns c = every_from_all (λ i. lower_ok c.args.n i (record_of c.args.file.now i)) c.args.n c.all.ensures.ran refl (λ x y q k. search (rules, tests))
