-- "It visits the condition and taken branch of an "if", the operand chosen by 12 and 13, and all operands of others." No operator has
-- more than two to visit: what the second is may rest on the value of the first.
use Rattle.std.specs.Prelude.{ℕ, zero, suc, ◌≡◌, Bool, cond, ◌&&◌, List, [], ◌∷◌, ◌++◌, leb, ℤ, pos, None, Option, Some}
use Rattle.node.specs.declared.equation.Equation.{Equation}
use Rattle.node.specs.declared.equation.Equation.TheVariants.{Input, Constant, Not, And, Or, Same, Sum, Difference, Multiple, AtMost, Equal, If, Arrow, FollowedBy, Lesser, Greater}
use Rattle.node.specs.Equations.{fields_of}
use Rattle.streams.specs.Solutions.{Streams}
use Rattle.look_up.specs.declared.visits.Visit.{Visit}

-- stream s at instant t
abbrev pub visit_at : (t s : ℕ) → Visit
visit_at t s = record { instant = t; stream = s }

-- what is visited from an equation at instant t: the condition of an "if", the operand chosen by 12 and 13, the first operand of any other
abbrev pub first_visit : Equation → (t : ℕ) → Option Visit
first_visit Input t = None
first_visit (Constant k) t = None
first_visit (Not a) t = Some (visit_at t a)
first_visit (And a b) t = Some (visit_at t a)
first_visit (Or a b) t = Some (visit_at t a)
first_visit (Same a b) t = Some (visit_at t a)
first_visit (Sum a b) t = Some (visit_at t a)
first_visit (Difference a b) t = Some (visit_at t a)
first_visit (Multiple k a) t = Some (visit_at t a)
first_visit (AtMost a b) t = Some (visit_at t a)
first_visit (Equal a b) t = Some (visit_at t a)
first_visit (If c a b) t = Some (visit_at t c)
first_visit (Arrow a b) zero = Some (visit_at zero a)
first_visit (Arrow a b) (suc t) = Some (visit_at (suc t) b)
first_visit (FollowedBy a b) zero = Some (visit_at zero a)
first_visit (FollowedBy a b) (suc t) = Some (visit_at t b)
first_visit (Lesser a b) t = Some (visit_at t a)
first_visit (Greater a b) t = Some (visit_at t a)

-- .. and then: the taken branch of an "if" whose condition `holds` or not; nothing more of 12 and 13; the second operand of any other
abbrev pub second_visit : Equation → (t : ℕ) → (holds : Bool) → Option Visit
second_visit Input t holds = None
second_visit (Constant k) t holds = None
second_visit (Not a) t holds = None
second_visit (And a b) t holds = Some (visit_at t b)
second_visit (Or a b) t holds = Some (visit_at t b)
second_visit (Same a b) t holds = Some (visit_at t b)
second_visit (Sum a b) t holds = Some (visit_at t b)
second_visit (Difference a b) t holds = Some (visit_at t b)
second_visit (Multiple k a) t holds = None
second_visit (AtMost a b) t holds = Some (visit_at t b)
second_visit (Equal a b) t holds = Some (visit_at t b)
second_visit (If c a b) t holds = cond holds (Some (visit_at t a)) (Some (visit_at t b))
second_visit (Arrow a b) t holds = None
second_visit (FollowedBy a b) t holds = None
second_visit (Lesser a b) t holds = Some (visit_at t b)
second_visit (Greater a b) t holds = Some (visit_at t b)

-- both
abbrev pub led : Option Visit → List Visit
led None = []
led (Some visit) = visit ∷ []

abbrev pub visits : Equation → (t : ℕ) → (holds : Bool) → List Visit
visits e t holds = led (first_visit e t) ++ led (second_visit e t holds)

-- operators 11, 12 and 13 choose among their operands
abbrev pub chooses : Equation → Bool
chooses e = leb 11 (fields_of e).op && leb (fields_of e).op 13

-- the same operator over what was visited: the first as stream 0, the second as stream 1
abbrev pub local_of : Equation → Equation
local_of Input = Input
local_of (Constant k) = Constant k
local_of (Not a) = Not 0
local_of (And a b) = And 0 1
local_of (Or a b) = Or 0 1
local_of (Same a b) = Same 0 1
local_of (Sum a b) = Sum 0 1
local_of (Difference a b) = Difference 0 1
local_of (Multiple k a) = Multiple k 0
local_of (AtMost a b) = AtMost 0 1
local_of (Equal a b) = Equal 0 1
local_of (If c a b) = If 0 1 1
local_of (Arrow a b) = Arrow 0 0
local_of (FollowedBy a b) = FollowedBy 0 0
local_of (Lesser a b) = Lesser 0 1
local_of (Greater a b) = Greater 0 1

-- the visit leads to stream s at instant j
abbrev pub To : Option Visit → (j s : ℕ) → Type 0
To None j s = ⊥
To (Some visit) j s = (j ≡ visit.instant) × (s ≡ visit.stream)

-- the value that it finds; 0 where it leads nowhere
abbrev pub value_at : Streams → Option Visit → ℤ
value_at v None = pos 0
value_at v (Some visit) = v visit.instant visit.stream
