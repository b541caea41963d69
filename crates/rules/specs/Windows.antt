-- Windows: a few instants in a row of an assignment, and what it is that a node's equations hold in one.
use Rattle.std.specs.Prelude.{ℕ, ◌+◌, ◌-◌, ◌/◌, ◌%◌, ◌<◌, ◌≡◌, Bool, true, false, ℤ}
use Rattle.streams.specs.Meaning.{meaning}
use Rattle.streams.specs.Nodes.{Node}
use Rattle.streams.specs.Solutions.{Streams}
use Rattle.streams.specs.Typing.{Fits}
use Rattle.streams.specs.Values.{Values}
use Rattle.constraints.specs.Linear.{variable}
use Rattle.rules.specs.Versions.{Version}
use Rattle.rules.specs.declared.pattern.Position.{Position}
use Rattle.rules.specs.declared.pattern.Position.TheVariants.{Opening, Entry, Inner}
use Rattle.rules.specs.Lines.{position_of}
use Rattle.rules.specs.Satisfaction.{Valuation}

-- the instants from `start` on: variable 64·offset + stream is the stream at instant start + offset
unfoldable pub window_from : Streams → (start : ℕ) → Valuation
window_from values start x = values (start + x / 64) (x % 64)

-- what a place says of the instant there, and of the values one instant before: Opening is instant 0; Entry is no first one where the
-- step's window begins after instant 0, else any; Inner is no first one, with the instant before one offset lower
abbrev pub PositionSays : Version → Position → (n : ℕ) → (first : Bool) → (past back : Values) → Type 0
PositionSays version Opening n first past back = first ≡ true
PositionSays version Entry n first past back = version.after ≡ true → first ≡ false
PositionSays version Inner n first past back = (first ≡ false) × ((x : ℕ) → x < n → past x ≡ back x)

-- stream s at offset q has the value in its operator's row, at an instant that is as the offset's place says
pub record RowHolds (version : Version) (node : Node) (opening : Position) (w : Valuation) (q s : ℕ) : Type 0 where
  pub input : ℤ
  pub first : Bool
  pub past : Values
  pub value : w (variable q s) ≡ meaning (node.equations s) input first past (λ x. w (variable q x))
  pub place : PositionSays version (position_of opening q) node.streams first past (λ x. w (variable (q - 1) x))

-- the equations hold at the offsets below `offsets`
pub record Solves (version : Version) (node : Node) (opening : Position) (offsets : ℕ) (w : Valuation) : Type 0 where
  pub fits : (q s : ℕ) → q < offsets → s < node.streams → Fits (node.types s) (w (variable q s))
  pub rows : (q s : ℕ) → q < offsets → s < node.streams → RowHolds version node opening w q s
