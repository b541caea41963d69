-- "its operator's least and greatest results, each operand by itself anywhere in its range, lie inside; for 11, 12 and 13 both a's
-- and b's ranges do."
use Rattle.std.specs.Prelude.{ℕ, ◌≡◌, List, [], ◌∷◌, Bool, true, cond, ◌&&◌, ℤ, pos, ◌+ℤ◌, ◌-ℤ◌, ◌*ℤ◌}
use Rattle.std.specs.Int.Signed.{le_z}
use Rattle.integers.specs.Range.{lesser, greater}
use Rattle.node.specs.declared.equation.Equation.{Equation}
use Rattle.node.specs.declared.equation.Equation.TheVariants.{Input, Constant, Not, And, Or, Same, Sum, Difference, Multiple, AtMost, Equal, If, Arrow, FollowedBy, Lesser, Greater}
use Rattle.ranges.specs.declared.table.Range.{Range}
use Rattle.ranges.specs.Table.{range, In}

-- "least and greatest results, each operand by itself anywhere in its range": every result lies within r, and both ends of r are
-- results. An operator of one operand takes no notice of y
pub record ResultsOf (f : (x y : ℤ) → ℤ) (a b r : Range) : Type 0 where
  pub within : (x y : ℤ) → In a x → In b y → In r (f x y)
  pub least : (x : ℤ) × ((y : ℤ) × (In a x × In b y × (f x y ≡ r.least)))
  pub greatest : (x : ℤ) × ((y : ℤ) × (In a x × In b y × (f x y ≡ r.greatest)))

-- a constant is its own range
abbrev pub single : ℤ → Range
single k = range k k

-- of an operator whose results rise with both operands: those of the least ends, and of the greatest
abbrev pub rising : (op : ℤ → ℤ → ℤ) → Range → Range → Range
rising op a b = range (op a.least b.least) (op a.greatest b.greatest)

abbrev pub sum_of : Range → Range → Range
sum_of a b = rising ◌+ℤ◌ a b

abbrev pub difference_of : Range → Range → Range
difference_of a b = range (a.least -ℤ b.greatest) (a.greatest -ℤ b.least)

-- a negative K swaps the ends
unfoldable pub multiple_of : (k : ℤ) → Range → Range
multiple_of k a =
    cond (le_z (pos 0) k) (range (k *ℤ a.least) (k *ℤ a.greatest)) (range (k *ℤ a.greatest) (k *ℤ a.least))

abbrev pub lesser_of : Range → Range → Range
lesser_of a b = rising lesser a b

abbrev pub greater_of : Range → Range → Range
greater_of a b = rising greater a b

-- the ranges that an int stream's own must hold, by the ranges of all streams: of an input, and of what gives a bool, none
abbrev pub ends : Equation → (of : ℕ → Range) → List Range
ends Input of = []
ends (Constant k) of = single k ∷ []
ends (Not a) of = []
ends (And a b) of = []
ends (Or a b) of = []
ends (Same a b) of = []
ends (Sum a b) of = sum_of (of a) (of b) ∷ []
ends (Difference a b) of = difference_of (of a) (of b) ∷ []
ends (Multiple k a) of = multiple_of k (of a) ∷ []
ends (AtMost a b) of = []
ends (Equal a b) of = []
ends (If c a b) of = of a ∷ of b ∷ []
ends (Arrow a b) of = of a ∷ of b ∷ []
ends (FollowedBy a b) of = of a ∷ of b ∷ []
ends (Lesser a b) of = lesser_of (of a) (of b) ∷ []
ends (Greater a b) of = greater_of (of a) (of b) ∷ []

-- "lie inside"
unfoldable pub is_inside : (own : Range) → Range → Bool
is_inside own r = le_z own.least r.least && le_z r.greatest own.greatest

unfoldable pub all_inside : (own : Range) → List Range → Bool
all_inside own [] = true
all_inside own (r ∷ rs) = is_inside own r && all_inside own rs
