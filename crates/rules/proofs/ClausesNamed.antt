-- An operator's clauses have only variables of the stream and of its operands.
-- Assumes nothing.
use Prim.Native.Nat.{ℕ, ◌<◌}
use Rattle.node.specs.declared.equation.StreamType.{StreamType}
use Rattle.node.specs.declared.equation.Equation.{Equation}
use Rattle.node.specs.Reads.{All, reads}
use Rattle.constraints.proofs.Totals.{Below}
use Rattle.rules.specs.declared.pattern.Clause.{Clause}
use Rattle.rules.specs.declared.pattern.Pattern.{Pattern}
use Rattle.rules.specs.declared.pattern.Pattern.TheVariants.{Yes, No, Most}
use Rattle.rules.specs.declared.pattern.Position.{Position}
use Rattle.rules.specs.Clauses.{bounded_of, clauses}
use Rattle.rules.specs.Versions.{Version}
use Rattle.rules.proofs.ClauseLiterals.{Each, Made, Known, each_literal}

-- a literal whose variables are below n
abbrev pub LiteralBelow : (n : ℕ) → Pattern → Type 0
LiteralBelow n (Yes x) = x < n
LiteralBelow n (No x) = x < n
LiteralBelow n (Most d) = Below n (bounded_of d).form

-- a clause of such literals, at least one
abbrev pub ClauseBelow : (n : ℕ) → Clause → Type 0
ClauseBelow n = Each (LiteralBelow n)

module _ (n s : ℕ) (own : s < n) where
  made_below : Made (LiteralBelow n) (λ x. x < n) (λ x. x < n) (λ k. Unit {0}) s
  made_below =
      record {
        own = own;
        yes = λ x l. l;
        no = λ x l. l;
        at_most = λ x y l m. (l, (m, (l, tt)));
        below = λ x y l m. (l, (m, (l, tt)));
        constant = λ k _. ((own, (own, (own, tt))), (own, (own, (own, tt))));
        sum = λ b _ x y l m. ((own, (l, (m, tt))), (own, (l, (m, tt))));
        multiple = λ k _ x l. ((own, (l, (l, tt))), (own, (l, (l, tt))));
      }

  pub clauses_below :
      (version : Version) (now back : ℕ → ℕ) (ty : StreamType) (e : Equation) (place : Position)
      → All (Known (λ x. x < n) (λ x. x < n) now back) (reads e) → All (ClauseBelow n) (clauses version ty e place now back s)
  clauses_below version now back ty e place r = each_literal made_below version now back ty e place tt r
