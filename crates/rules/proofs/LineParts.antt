-- The part that a line stands in, by its number.
-- Assumes nothing.
use mathlib.Core.Path.{◌≡◌, refl}
use mathlib.Core.Bool.{Bool, true, false, cond}
use mathlib.Core.List.{List}
use Prim.Native.Nat.{ℕ, ◌<◌, ◌≤◌}
use borrow.Author.Tests.{lt-ltb, le-ltb}
use lib.Dec.{ltb}
use Rattle.constraints.specs.Layout.{trailer_of}
use Rattle.rules.specs.Lines.{Window, base_window, step_window}
use Rattle.rules.specs.Verdict.{part_of, first_line}
use Rattle.rules.specs.Versions.{Version}

module _ (version : Version) (cert : List ℕ) where
  pub part_base : (property i : ℕ) → i < (trailer_of cert).base → part_of version cert property i ≡ base_window version (trailer_of cert).depth property (trailer_of cert).base
  part_base property i l = rw (lt-ltb i (trailer_of cert).base l)

  pub part_step : (property i : ℕ) → (trailer_of cert).base ≤ i → part_of version cert property i ≡ step_window (trailer_of cert).depth property (trailer_of cert).base (trailer_of cert).step
  part_step property i l = rw (le-ltb i (trailer_of cert).base l)

  -- where a part begins depends on neither the version nor the property
  pub from_is : (property i : ℕ) → (part_of version cert property i).from ≡ first_line cert i
  from_is property i = go (ltb i (trailer_of cert).base)
    where
      window : Bool → Window
      window b =
          cond b (base_window version (trailer_of cert).depth property (trailer_of cert).base) (step_window (trailer_of cert).depth property (trailer_of cert).base (trailer_of cert).step)

      go : (b : Bool) → (window b).from ≡ cond b 0 (trailer_of cert).base
      go true = refl
      go false = refl
