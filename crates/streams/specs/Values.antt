-- Values of streams are whole numbers: "1 stands for true, 0 for false".
use Rattle.std.specs.Prelude.{ℕ, Bool, true, false, ◌&&◌, List, ℤ, pos, get_or}
use Rattle.std.specs.Int.Signed.{le_z}

abbrev pub number : Bool → ℤ
number true = pos 1
number false = pos 0

-- a and b are the same number: each is at most the other
unfoldable pub equals : ℤ → ℤ → Bool
equals a b = le_z a b && le_z b a

-- the paper says nothing of other numbers than 0 and 1: they count as false
unfoldable pub truth : ℤ → Bool
truth z = equals z (pos 1)

-- a value for each stream
abbrev pub Values : Type 0
Values = ℕ → ℤ

-- values that stand in a list; past its end, 0
abbrev pub values_in : List ℤ → Values
values_in l s = get_or l s (pos 0)
