-- A solution's instants in a row are a window in which the node's equations hold: from instant 0 on that of the base, from an
-- instant on that the step may begin at that of the step.
-- Assumes nothing.
use mathlib.Core.Path.{◌≡◌, refl, sym, ◌∙◌, ap, ap₂, subst}
use mathlib.Core.Bool.{Bool, true, false, cond}
use Prim.Native.Nat.{ℕ, zero, suc, ◌+◌, ◌-◌, ◌*◌, ◌/◌, ◌%◌, ◌<◌, ◌≤◌}
use native.Mathlib.Nat.{not-suc-le-zero}
use native.Mathlib.Omega.{arith}
use borrow.Author.Tests.{eqb-true, eqb-false}
use lib.Dec.{eqb}
use lib.IntN.{ℤ}
use Rattle.node.specs.Reads.{reads, ReadOk}
use Rattle.streams.specs.Meaning.{meaning}
use Rattle.streams.specs.Nodes.{Node, WellFormedNode}
use Rattle.streams.specs.Solutions.{Streams, Solution, is_first, before}
use Rattle.streams.specs.Typing.{Fits, Inputs, given}
use Rattle.streams.specs.Values.{Values}
use Rattle.streams.proofs.Reading.{all_map, meaning_rests, by_read}
use Rattle.constraints.specs.Linear.{variable}
use Rattle.rules.specs.declared.pattern.Position.{Position}
use Rattle.rules.specs.declared.pattern.Position.TheVariants.{Inner}
use Rattle.rules.specs.Lines.{position_of}
use Rattle.rules.specs.Satisfaction.{Valuation}
use Rattle.rules.specs.Versions.{Version}
use Rattle.rules.specs.Windows.{window_from, PositionSays, RowHolds, Solves}

-- a variable of the window is its stream at its instant
pub window_at : (values : Streams) (start q x : ℕ) → x < 64 → window_from values start (variable q x) ≡ values (start + q) x
unfolding window_from
window_at values start q x l =
    let instant : start + (64 * q + x) / 64 ≡ start + q = omega arith in
    let stream : (64 * q + x) % 64 ≡ x = omega arith in
    ap₂ values instant stream

pub not_first : (t : ℕ) → 1 ≤ t → is_first t ≡ false
not_first zero l = absurd (not-suc-le-zero l)
not_first (suc t) l = refl

module _ (version : Version) (node : Node) (wf : WellFormedNode node) (few : node.streams ≤ 64) (inputs : Inputs) (values : Streams) (solves : Solution node inputs values) (start : ℕ) where
  abbrev window : Valuation
  window = window_from values start

  -- the window's values at an offset
  abbrev at_offset : (q : ℕ) → Values
  at_offset q x = window (variable q x)

  at_instant : (q x : ℕ) → x < node.streams → values (start + q) x ≡ at_offset q x
  at_instant q x l = sym (window_at values start q x (omega arith))

  -- a row reads streams of the node alone
  row_in_window : (q s : ℕ) → s < node.streams → (g : ℤ) (first : Bool) (past : Values) → meaning (node.equations s) g first past (values (start + q)) ≡ meaning (node.equations s) g first past (at_offset q)
  row_in_window q s l g first past =
      meaning_rests (node.equations s) g first past (values (start + q)) past (at_offset q)
      (all_map {P = ReadOk node.streams node.types s}
      (λ r ok. by_read ◌≡◌ r.now first _ _ _ _ (λ now. at_instant q r.stream ok.below) (λ e. refl))
      (reads (node.equations s)) (wf.operands s l))

  past_in_window : (q : ℕ) → 1 ≤ q → (x : ℕ) → x < node.streams → before values (start + q) x ≡ at_offset (q - 1) x
  past_in_window q l x m =
      let next : start + q ≡ suc (start + (q - 1)) = omega arith in
      ap (λ (t : ℕ). before values t x) next ∙ at_instant (q - 1) x m

  -- an offset that stands at a place is as the place says
  abbrev SaysAt : Position → (q : ℕ) → Type 0
  SaysAt place q = PositionSays version place node.streams (is_first (start + q)) (before values (start + q)) (at_offset (q - 1))

  place_says : (opening : Position) → SaysAt opening 0 → (q : ℕ) → SaysAt (position_of opening q) q
  place_says opening begins q = go (eqb q 0) refl
    where
      go : (t : Bool) → eqb q 0 ≡ t → SaysAt (cond t opening Inner) q
      go true e = subst (SaysAt opening) (sym (eqb-true q 0 e)) begins
      go false e =
          let some : 1 ≤ q = omega (arith, eqb-false q 0 e) in
          (not_first (start + q) (omega arith), past_in_window q some)

  row_holds : (opening : Position) → SaysAt opening 0 → (q s : ℕ) → s < node.streams → RowHolds version node opening window q s
  row_holds opening begins q s l =
      let t = start + q in
      record {
        input = given node (inputs t) s;
        first = is_first t;
        past = before values t;
        value = sym (at_instant q s l) ∙ solves.holds t s l ∙ row_in_window q s l (given node (inputs t) s) (is_first t) (before values t);
        place = place_says opening begins q;
      }

  pub solves_window : (opening : Position) → SaysAt opening 0 → (offsets : ℕ) → Solves version node opening offsets window
  solves_window opening begins offsets =
      record {
        fits = λ q s m l. subst (Fits (node.types s)) (at_instant q s l) (solves.fits (start + q) s l);
        rows = λ q s m l. row_holds opening begins q s l;
      }
