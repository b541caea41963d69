-- What rule 16 says of a line: its count, that each listed literal names an atom, and that the multipliers of kind 4 are within the
-- limit.
-- Assumes nothing.
use mathlib.Core.Path.{◌≡◌}
use mathlib.Core.Bool.{true, ◌&&◌}
use Prim.Native.Nat.{ℕ, ◌<◌, ◌≤◌}
use native.Mathlib.Omega.{arith}
use borrow.Author.Tests.{leb-true, lt-leb}
use lib.Dec.{leb}
use Rattle.answers.specs.Checks.{every}
use Rattle.answers.proofs.Every.{every_all}
use Rattle.answers.proofs.Tests.{both_true}
use Rattle.constraints.specs.Layout.{Line}
use Rattle.constraints.specs.Rules.{Types}
use Rattle.literals.specs.Literals.{atom_of}
use Rattle.rules.specs.Arithmetic.{is_multiplier}
use Rattle.rules.specs.Literals.{names_atom}
use Rattle.rules.specs.Lines.{multiplier_ok, slot_ok, numbers_ok, shape_ok}

pub multiplier_small : (m : ℕ) → is_multiplier m ≡ true → m ≤ 1000000
multiplier_small m e = leb-true m 1000000 (both_true (leb 1 m) (leb m 1000000) e).1

pub record ShapeFacts (types : Types) (k m : ℕ) (line : Line) : Type 0 where
  pub least : 1 ≤ line.head.kind
  pub most : line.head.kind ≤ 5
  pub count : line.head.count ≤ 12
  pub atoms : (j : ℕ) → j < line.head.count → names_atom types k m (atom_of (line.literal j)) ≡ true
  pub multipliers : line.head.kind ≡ 4 → (j : ℕ) → j < line.head.count → line.multiplier j ≤ 1000000

module _ (types : Types) (k m : ℕ) (line : Line) where
  -- a listed literal and its multiplier
  listed : (j : ℕ) → j < line.head.count → slot_ok types k m line.head.kind line.head.count line.literal line.multiplier j ≡ true → (names_atom types k m (atom_of (line.literal j)) ≡ true) × (multiplier_ok line.head.kind (line.multiplier j) ≡ true)
  unfolding slot_ok
  listed j l e =
      both_true (names_atom types k m (atom_of (line.literal j))) (multiplier_ok line.head.kind (line.multiplier j))
      (rw (lt-leb line.head.count j l) at e)

  pub shape_facts : shape_ok types k m line ≡ true → ShapeFacts types k m line
  unfolding shape_ok
  shape_facts e =
      let h = line.head in
      let slots = every (slot_ok types k m h.kind h.count line.literal line.multiplier) 12 in
      let a = both_true (leb 1 h.kind && leb h.kind 5 && leb h.count 12 && numbers_ok h) slots e in
      let b = both_true (leb 1 h.kind && leb h.kind 5 && leb h.count 12) (numbers_ok h) a.0 in
      let c = both_true (leb 1 h.kind && leb h.kind 5) (leb h.count 12) b.0 in
      let d = both_true (leb 1 h.kind) (leb h.kind 5) c.0 in
      let few : h.count ≤ 12 = leb-true _ _ c.1 in
      let each : (j : ℕ) → j < h.count → slot_ok types k m h.kind h.count line.literal line.multiplier j ≡ true =
      λ j l. every_all (slot_ok types k m h.kind h.count line.literal line.multiplier) 12 a.1 j (omega arith) in
      record {
        least = leb-true _ _ d.0;
        most = leb-true _ _ d.1;
        count = few;
        atoms = λ j l. (listed j l (each j l)).0;
        multipliers = λ four j l. multiplier_small (line.multiplier j) (rw four at (listed j l (each j l)).1);
      }
