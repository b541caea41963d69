-- Values that keep the rows are the only ones: at one instant by the rank of the streams, then instant after instant.
-- Assumes nothing.
use mathlib.Core.Path.{◌≡◌, sym, ◌∙◌, subst}
use mathlib.Core.Bool.{Bool, true, false, true≢false}
use mathlib.Core.List.{List}
use Prim.Native.Nat.{ℕ, zero, suc, ◌<◌, ◌≤◌}
use native.Mathlib.Nat.{not-suc-le-zero, le_refl, lt-suc_self}
use native.Mathlib.Omega.{arith}
use lib.IntN.{ℤ}
use Rattle.node.specs.Reads.{Read, reads}
use Rattle.streams.specs.Nodes.{Node}
use Rattle.streams.specs.Solutions.{Streams, is_first, before, row}
use Rattle.streams.specs.Typing.{Inputs, given}
use Rattle.streams.specs.Values.{Values}
use Rattle.streams.proofs.Orders.{Settled, Ranked}
use Rattle.streams.proofs.Reading.{all_map, meaning_rests, by_read}

-- the values keep the row of each stream of rank below k
abbrev pub RowsTo : Node → (rank : ℕ → ℕ) → (inputs : List ℤ) → (first : Bool) → (past present : Values) → (k : ℕ) → Type 0
RowsTo node rank inputs first past present k =
    (s : ℕ) → s < node.streams → rank s < k → present s ≡ row node inputs first past s present

-- the values keep every row at an instant ..
abbrev pub Rows : Node → (inputs : List ℤ) → (first : Bool) → (past present : Values) → Type 0
Rows node inputs first past present = (s : ℕ) → s < node.streams → present s ≡ row node inputs first past s present

-- .. and at all instants
abbrev pub AllRows : Node → Inputs → Streams → Type 0
AllRows node inputs values = (t : ℕ) → Rows node (inputs t) (is_first t) (before values t) (values t)

-- the values before agree, where there is an instant before
abbrev pub SamePast : Node → (first : Bool) → (p q : Values) → Type 0
SamePast node first p q = first ≡ false → (s : ℕ) → s < node.streams → p s ≡ q s

module _ (node : Node) (rank : ℕ → ℕ) (ranked : Ranked node rank) where
  -- a row's value, where all that it reads agrees
  pub row_same : (inputs : List ℤ) (first : Bool) (p v q w : Values) (s : ℕ) → s < node.streams → ((r : Read) → Settled node.streams rank s r → r.now ≡ true → v r.stream ≡ w r.stream) → SamePast node first p q → row node inputs first p s v ≡ row node inputs first q s w
  row_same inputs first p v q w s l now past =
      meaning_rests (node.equations s) (given node inputs s) first p v q w
      (all_map {P = Settled node.streams rank s} (λ r ok. by_read ◌≡◌ r.now first _ _ _ _ (now r ok) (λ e. past e r.stream ok.below))
      (reads (node.equations s)) (ranked s l))

  module _ (inputs : List ℤ) (first : Bool) (p v q w : Values) (past : SamePast node first p q) where
    pub agree_to : (k : ℕ) → RowsTo node rank inputs first p v k → RowsTo node rank inputs first q w k → (s : ℕ) → s < node.streams → rank s < k → v s ≡ w s
    agree_to zero of_v of_w s l h = absurd (not-suc-le-zero h)
    agree_to (suc k) of_v of_w s l h =
        of_v s l h
        ∙ row_same inputs first p v q w s l
        (λ r ok now. agree_to k (λ i m g. of_v i m (omega arith)) (λ i m g. of_w i m (omega arith)) r.stream ok.below (omega (arith, ok.lower now)))
        past
        ∙ sym (of_w s l h)

    pub agree : Rows node inputs first p v → Rows node inputs first q w → (s : ℕ) → s < node.streams → v s ≡ w s
    agree of_v of_w s l = agree_to (suc (rank s)) (λ i m g. of_v i m) (λ i m g. of_w i m) s l (lt-suc_self (rank s))

  -- the values at an instant depend on the inputs up to it
  pub agree_until : (inputs others : Inputs) (v w : Streams) → AllRows node inputs v → AllRows node others w → (t : ℕ) → ((j : ℕ) → j ≤ t → inputs j ≡ others j) → (s : ℕ) → s < node.streams → v t s ≡ w t s
  agree_until inputs others v w of_v of_w zero same =
      agree (inputs zero) true _ (v zero) _ (w zero) (λ e. absurd (true≢false e)) (of_v zero)
      (subst (λ (l : List ℤ). Rows node l true (before w zero) (w zero)) (sym (same zero (le_refl zero))) (of_w zero))
  agree_until inputs others v w of_v of_w (suc t) same =
      agree (inputs (suc t)) false (v t) (v (suc t)) (w t) (w (suc t)) (λ e. agree_until inputs others v w of_v of_w t (λ j l. same j (omega arith))) (of_v (suc t))
      (subst (λ (l : List ℤ). Rows node l false (w t) (w (suc t))) (sym (same (suc t) (le_refl (suc t)))) (of_w (suc t)))
