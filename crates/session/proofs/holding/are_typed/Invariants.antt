-- `session::are_typed` meets its contract. The loop's invariant: each value passed fits its type.
use mathlib.Core.Path.{◌≡◌}
use mathlib.Core.Bool.{true}
use Rattle.answers.specs.Checks.{every}
use Rattle.session.specs.Records.{value_typed}
use Rattle.session.proofs.holding.are_typed.Given as goal

abbrev pub invariant-loop-i : goal.invariant-loop-i
invariant-loop-i l = every (value_typed l.file l.values) l.i ≡ true
