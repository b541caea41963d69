-- "Join: p and q are lower lines of the same part; literal r stands in p, its opposite in q. Each literal of p but r, and of q
-- but the opposite, stands in this line. More may stand here."
use Rattle.std.specs.Prelude.{ℕ, zero, suc, Bool, false, ◌&&◌, ◌||◌, leb, ltb, eqb}
use Rattle.answers.specs.Checks.{every}
use Rattle.constraints.specs.Layout.{Line, listed_in}
use Rattle.literals.specs.Literals.{opposite_of}

-- the search for a literal among those from j on: "written as a function calling itself on the rest"
unfoldable pub stands_from : (ℕ → ℕ) → (l j left : ℕ) → Bool
stands_from literal l j zero = false
stands_from literal l j (suc left) = eqb (literal j) l || stands_from literal l (suc j) left

-- a literal stands in a line
abbrev pub stands_in : Line → (l : ℕ) → Bool
stands_in line l = stands_from line.literal l 0 (listed_in line)

-- a literal is the one left out, or stands among the others
abbrev pub covered_by : (ℕ → ℕ) → (but : ℕ) → (ℕ → ℕ) → (others j : ℕ) → Bool
covered_by literal but other others j = eqb (literal j) but || stands_from other (literal j) 0 others

-- each literal of a line but one stands in another
abbrev pub covered : Line → (but : ℕ) → Line → Bool
covered line but other = every (covered_by line.literal but other.literal (listed_in other)) (listed_in line)

-- literal r stands in line p and its opposite in line q, and what is left of both stands in the line
unfoldable pub joins : (p q : Line) → (r : ℕ) → Line → Bool
joins p q r line =
    stands_in p r && stands_in q (opposite_of r) && covered p r line && covered q (opposite_of r) line

-- a lower line of the part that begins at `from`
abbrev pub is_lower : (from i k : ℕ) → Bool
is_lower from i k = leb from k && ltb k i

-- 19: kind 3 not as above; `from` is the first line of the part
unfoldable pub join_ok : (ℕ → Line) → (from i : ℕ) → Bool
join_ok lines from i =
    let head = (lines i).head in
    is_lower from i head.p && is_lower from i head.q && joins (lines head.p) (lines head.q) head.r (lines i)
