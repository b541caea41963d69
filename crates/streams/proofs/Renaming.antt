-- A node whose records stand in another order has the same values by name.
-- Assumes nothing.
use mathlib.Core.Path.{◌≡◌, refl, ◌∙◌, ap}
use mathlib.Core.Bool.{Bool}
use mathlib.Core.List.{List}
use Prim.Native.Nat.{ℕ, zero, suc}
use lib.IntN.{ℤ}
use Rattle.answers.specs.Answer.{accepted}
use Rattle.answers.specs.declared.NodeValues.{NodeValues}
use Rattle.node.specs.declared.equation.Equation.{Equation}
use Rattle.node.specs.declared.equation.Equation.TheVariants.{Input, Constant, Not, And, Or, Same, Sum, Difference, Multiple, AtMost, Equal, If, Arrow, FollowedBy, Lesser, Greater}
use Rattle.node.specs.Equations.{decoded}
use Rattle.node.specs.Reads.{row_for}
use Rattle.node.specs.Table.{row_of}
use Rattle.node.specs.Verdict.{verdict_of}
use Rattle.node.proofs.WellFormedness.{accepted_well_formed}
use Rattle.streams.specs.Meaning.{meaning}
use Rattle.streams.specs.Nodes.{Node, node_of, WellFormedNode}
use Rattle.streams.specs.Renaming.{renamed, Renamed, SameInputs, SameByName}
use Rattle.streams.specs.Solutions.{Streams, is_first, before, Solution}
use Rattle.streams.specs.Typing.{Inputs, given}
use Rattle.streams.specs.Values.{Values}
use Rattle.streams.proofs.Agreement.{AllRows, agree_until}
use Rattle.streams.proofs.Orders.{place_of, ranked_by_place}

-- a renamed equation means what the equation means of the values under their other numbers
meaning_renamed : (names : ℕ → ℕ) (e : Equation) (g h : ℤ) (f : Bool) (p v : Values) → (e ≡ Input → g ≡ h) → meaning (renamed names e) g f p v ≡ meaning e h f (λ x. p (names x)) (λ x. v (names x))
unfolding renamed decoded row_for row_of
meaning_renamed names Input g h f p v i = i refl
meaning_renamed names (Constant k) g h f p v i = refl
meaning_renamed names (Not a) g h f p v i = refl
meaning_renamed names (And a b) g h f p v i = refl
meaning_renamed names (Or a b) g h f p v i = refl
meaning_renamed names (Same a b) g h f p v i = refl
meaning_renamed names (Sum a b) g h f p v i = refl
meaning_renamed names (Difference a b) g h f p v i = refl
meaning_renamed names (Multiple k a) g h f p v i = refl
meaning_renamed names (AtMost a b) g h f p v i = refl
meaning_renamed names (Equal a b) g h f p v i = refl
meaning_renamed names (If c a b) g h f p v i = refl
meaning_renamed names (Arrow a b) g h f p v i = refl
meaning_renamed names (FollowedBy a b) g h f p v i = refl
meaning_renamed names (Lesser a b) g h f p v i = refl
meaning_renamed names (Greater a b) g h f p v i = refl

module _ (names : ℕ → ℕ) (node other : Node) (is : Renamed names node other) where
  -- the other node's values, under this one's numbers
  abbrev named : Streams → Streams
  named w t s = w t (names s)

  before_named : (w : Streams) (t : ℕ) → (λ x. before w t (names x)) ≡ before (named w) t
  before_named w zero = refl
  before_named w (suc t) = refl

  named_rows : (inputs others : Inputs) → SameInputs names node other inputs others → (w : Streams) → Solution other others w → AllRows node inputs (named w)
  named_rows inputs others same w of_w t s l =
      of_w.holds t (names s) (is.inside s l)
      ∙ ap (λ (e : Equation). meaning e (given other (others t) (names s)) (is_first t) (before w t) (w t)) (is.equations s l)
      ∙ meaning_renamed names (node.equations s) (given other (others t) (names s)) (given node (inputs t) s) (is_first t) (before w t) (w t) (same t s l)
      ∙ ap (λ (p : Values). meaning (node.equations s) (given node (inputs t) s) (is_first t) p (named w t)) (before_named w t)

  pub renamed_same : WellFormedNode node → SameByName names node other
  renamed_same wf inputs others same v w of_v of_w t =
      agree_until node (place_of node) (ranked_by_place node wf) inputs inputs (named w) v (named_rows inputs others same w of_w) of_v.holds t (λ j l. refl)

-- of every file that the node reader accepts
pub accepted_renamed_same : (names : ℕ → ℕ) (s : List ℕ) {node : NodeValues} (other : Node) → verdict_of s ≡ accepted node → Renamed names (node_of s) other → SameByName names (node_of s) other
accepted_renamed_same names s other e is = renamed_same names (node_of s) other is (accepted_well_formed s e)
