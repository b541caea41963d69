-- "The reader works out an order: each time the lowest-numbered record whose operands needed now are all placed." Here `needs` gives
-- the operands that each record needs now.
use Rattle.std.specs.Prelude.{◌≡◌, ℕ, zero, suc, ◌<◌, Bool, true, false, not, cond, ◌&&◌, ◌||◌, List, [], ◌∷◌, ◌++◌, eqb, None, Option, Some}
use Rattle.answers.specs.Checks.{lowest}

-- a number is among those of a list; a record among those of the order so far is placed
unfoldable pub is_among : List ℕ → (x : ℕ) → Bool
is_among [] x = false
is_among (y ∷ ys) x = eqb y x || is_among ys x

-- "operands needed now are all placed"
abbrev pub all_among : List ℕ → (needed : List ℕ) → Bool
all_among order [] = true
all_among order (x ∷ needed) = is_among order x && all_among order needed

-- a record that can be placed next
unfoldable pub is_ready : (needs : ℕ → List ℕ) → (order : List ℕ) → (i : ℕ) → Bool
is_ready needs order i = not (is_among order i) && all_among order (needs i)

-- "the lowest-numbered" one of n
unfoldable pub lowest_ready : (needs : ℕ → List ℕ) → (n : ℕ) → (order : List ℕ) → Option ℕ
lowest_ready needs n order = lowest (λ i. not (is_ready needs order i)) n

abbrev pub followed_by : List ℕ → Option ℕ → List ℕ
followed_by order (Some i) = order ++ (i ∷ [])
followed_by order None = order

-- one turn: the order with the next record, where there is one
abbrev pub extended : (needs : ℕ → List ℕ) → (n : ℕ) → (order : List ℕ) → List ℕ
extended needs n order = followed_by order (lowest_ready needs n order)

-- the order after some turns; n turns place all that can be placed (proofs/Placing.antt)
unfoldable pub order_after : (needs : ℕ → List ℕ) → (n turns : ℕ) → List ℕ
order_after needs n zero = []
order_after needs n (suc k) = extended needs n (order_after needs n k)

abbrev pub order_by : (needs : ℕ → List ℕ) → (n : ℕ) → List ℕ
order_by needs n = order_after needs n n

-- the place of a record in an order, counted from 0
abbrev pub place_in : List ℕ → (i : ℕ) → ℕ
place_in [] i = 0
place_in (x ∷ order) i = cond (eqb x i) 0 (suc (place_in order i))

-- 0, 1, 2 .. below n: the order of a node whose operands needed now are all lower (proofs/RecordOrder.antt)
unfoldable pub up_to : (n : ℕ) → List ℕ
up_to zero = []
up_to (suc n) = up_to n ++ (n ∷ [])

-- "some chain of such operands": from a record to one that it needs now, on and on
pub data Chain (needs : ℕ → List ℕ) : ℕ → ℕ → Type 0 where
  link : {i x : ℕ} → is_among (needs i) x ≡ true → Chain needs i x
  onto : {i x y : ℕ} → is_among (needs i) x ≡ true → Chain needs x y → Chain needs i y

-- it "returns to its start"
abbrev pub Circle : (needs : ℕ → List ℕ) → (n : ℕ) → Type 0
Circle needs n = (i : ℕ) × (i < n) × Chain needs i i
