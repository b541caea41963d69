-- `matching::do_agree_elsewhere` meets its contract: at a variable of d they agree already.
use mathlib.Core.Path.{◌≡◌, sym, subst}
use mathlib.Core.Logic.{◌⊎◌, inl, inr}
use mathlib.Core.Bool.{Bool, true, ◌&&◌, ◌||◌}
use Prim.Native.Nat.{ℕ}
use borrow.Author.Tests.{eqb-true}
use lib.Dec.{eqb}
use Rattle.answers.proofs.Tests.{both_true, either_true}
use Rattle.constraints.specs.Layout.{constraint_at}
use Rattle.constraints.specs.Linear.{Form, written, agree_at}
use Rattle.rules.specs.declared.pattern.Linear.{Linear}
use Rattle.rules.specs.Clauses.{bounded_of}
use Rattle.matching.specs.Content.{agree}
use Rattle.matching.proofs.content.do_agree_elsewhere.Goals as goal

-- one of three variables
module _ (f : Form) (d : Linear) (known : agree_at f (bounded_of d).form (bounded_of d).form ≡ true) (x : ℕ) where
  abbrev Agrees : ℕ → Type 0
  Agrees y = agree f (bounded_of d).form y ≡ true

  at_variable : (y : ℕ) → Agrees y → eqb x y ≡ true → Agrees x
  at_variable y h e = subst Agrees (sym (eqb-true x y e)) h

  each : Agrees d.x × Agrees d.y × Agrees d.z
  unfolding agree_at
  each =
      let agrees : ℕ → Bool = agree f (bounded_of d).form in
      let outer = both_true (agrees d.z && agrees d.y) (agrees d.x) known in
      let inner = both_true (agrees d.z) (agrees d.y) outer.0 in
      (outer.1, inner.1, inner.0)

  pub at_one : (eqb x d.x || eqb x d.y || eqb x d.z) ≡ true → Agrees x
  at_one e = go (either_true (eqb x d.x || eqb x d.y) (eqb x d.z) e)
    where
      early : (eqb x d.x ≡ true) ⊎ (eqb x d.y ≡ true) → Agrees x
      early (inl p) = at_variable d.x each.0 p
      early (inr p) = at_variable d.y each.1 p

      go : ((eqb x d.x || eqb x d.y) ≡ true) ⊎ (eqb x d.z ≡ true) → Agrees x
      go (inl p) = early (either_true (eqb x d.x) (eqb x d.y) p)
      go (inr p) = at_variable d.z each.2 p

pub returns-then-x-d : goal.returns-then-x-d
returns-then-x-d c = sym (at_one (written (constraint_at c.args.file.now c.args.at) c.args.count) c.args.d c.requires.d_value c.args.x c.if-x-d.true)
