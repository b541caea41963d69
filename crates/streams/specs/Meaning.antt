-- The sixteen rows of the table of operators: "Value s".
use Rattle.std.specs.Prelude.{Bool, not, cond, ◌&&◌, ◌||◌, ℤ, ◌+ℤ◌, ◌-ℤ◌, ◌*ℤ◌}
use Rattle.std.specs.Bool.{beq}
use Rattle.std.specs.Int.Signed.{le_z}
use Rattle.integers.specs.Range.{lesser, greater}
use Rattle.node.specs.declared.equation.Equation.{Equation}
use Rattle.node.specs.declared.equation.Equation.TheVariants.{Input, Constant, Not, And, Or, Same, Sum, Difference, Multiple, AtMost, Equal, If, Arrow, FollowedBy, Lesser, Greater}
use Rattle.streams.specs.Values.{number, truth, equals, Values}

-- the value of a stream: `given` is its input, `first` says whether the instant is 0, `before` and `now` are the values of all
-- streams one instant before and at this instant
abbrev pub meaning : Equation → (given : ℤ) → (first : Bool) → (before now : Values) → ℤ
meaning Input given first before now = given  -- 0: input
meaning (Constant k) given first before now = k  -- 1: K (bool: 0 or 1)
meaning (Not a) given first before now = number (not (truth (now a)))  -- 2: not a
meaning (And a b) given first before now = number (truth (now a) && truth (now b))  -- 3: a and b
meaning (Or a b) given first before now = number (truth (now a) || truth (now b))  -- 4: a or b
meaning (Same a b) given first before now = number (beq (truth (now a)) (truth (now b)))  -- 5: a same as b
meaning (Sum a b) given first before now = now a +ℤ now b  -- 6: a + b
meaning (Difference a b) given first before now = now a -ℤ now b  -- 7: a − b
meaning (Multiple k a) given first before now = k *ℤ now a  -- 8: K·a
meaning (AtMost a b) given first before now = number (le_z (now a) (now b))  -- 9: a at most b
meaning (Equal a b) given first before now = number (equals (now a) (now b))  -- 10: a equal to b
meaning (If c a b) given first before now = cond (truth (now c)) (now a) (now b)  -- 11: if c then a else b
meaning (Arrow a b) given first before now = cond first (now a) (now b)  -- 12: a at instant 0, later b
meaning (FollowedBy a b) given first before now = cond first (now a) (before b)  -- 13: a at instant 0, later b one instant before
meaning (Lesser a b) given first before now = lesser (now a) (now b)  -- 14: lesser of a and b
meaning (Greater a b) given first before now = greater (now a) (now b)  -- 15: greater of a and b
