-- `look_ups::looked_up` meets its contract: the numbers that are counted are the history.
use mathlib.Core.Path.{sym, ◌∙◌, ap}
use mathlib.Core.List.{List}
use Prim.Native.Nat.{ℕ, ◌/◌, ◌≤◌}
use native.Mathlib.Omega.{arith}
use lib.IntN.{ℤ}
use lib.ListN.{length}
use lib.Seq.{length-take-le}
use Rattle.numbers.proofs.Capped.{capped}
use Rattle.numbers.proofs.Rows.{numbers_length, numbers_taken}
use Rattle.look_up.specs.LookUp.{look_up_of}
use Rattle.look_ups.specs.Questions.{size_of}
use Rattle.look_ups.proofs.looked_up.Goals as goal

-- at most as many as the array holds
size_most : (bytes : List ℕ) → size_of bytes ≤ 2048
unfolding size_of
size_most bytes = rw (← capped (length bytes / 8) 2048) (omega arith)

pub slice_bounds-inputs-end : goal.slice_bounds-inputs-end
slice_bounds-inputs-end c = rw (c.read_numbers.ensures, numbers_length, c.size_of.ensures) (size_most _)

pub slice_bounds-look_up-end : goal.slice_bounds-look_up-end
slice_bounds-look_up-end c = sym (length-take-le _ _ (rw (c.read_numbers.ensures, numbers_length, c.size_of.ensures) (size_most _)))

pub returns : goal.returns
returns c =
    let a = c.args in
    c.look_up.ensures
    ∙ ap (λ (inputs : List ℤ). look_up_of a.node.now a.count inputs a.stream a.instant)
    (rw (c.read_numbers.ensures, c.size_of.ensures) (numbers_taken _ _ 2048 0 (size_most _)))
