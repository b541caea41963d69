-- What rules 11 to 15 leave for the checks of lines.
use Rattle.std.specs.Prelude.{ℕ, ◌<◌, ◌≤◌, ◌≡◌, List, true, length}
use Rattle.constraints.specs.Layout.{trailer_of, size_of, constraint_of}
use Rattle.constraints.specs.Rules.{Types, constraint_ok}

pub record Ready (types : Types) (s : List ℕ) : Type 0 where
  pub room : size_of (trailer_of s) ≤ length s
  pub most : length s ≤ 65535
  pub least : 1 ≤ (trailer_of s).depth
  pub deep : (trailer_of s).depth ≤ 8
  pub few : (trailer_of s).constraints ≤ 256
  pub constraints : (i : ℕ) → i < (trailer_of s).constraints → constraint_ok types (trailer_of s).depth (constraint_of s i) ≡ true
