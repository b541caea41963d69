-- What each operator keeps up to an instant, every value of a solution there has: by the rank of the streams at an instant, then
-- instant after instant.
-- Assumes nothing.
use mathlib.Core.Path.{◌≡◌, sym, subst}
use mathlib.Core.Bool.{Bool, true, false, true≢false}
use mathlib.Core.List.{List}
use Prim.Native.Nat.{ℕ, zero, suc, ◌<◌, ◌≤◌}
use native.Mathlib.Nat.{not-suc-le-zero, le_refl, lt-suc_self}
use native.Mathlib.Omega.{arith}
use lib.IntN.{ℤ}
use Rattle.node.specs.Reads.{Read, reads, All}
use Rattle.streams.specs.Nodes.{Node}
use Rattle.streams.specs.Solutions.{Streams, is_first, before, row}
use Rattle.streams.specs.Typing.{Inputs}
use Rattle.streams.specs.Values.{Values}
use Rattle.streams.proofs.Agreement.{Rows, AllRows}
use Rattle.streams.proofs.Orders.{Settled, Ranked}
use Rattle.streams.proofs.Reading.{all_map, found, is_read, by_read}

-- Q of every operand that a row reads
abbrev pub ReadsKeep : (Q : ℕ → ℤ → Type 0) → (first : Bool) → (past present : Values) → List Read → Type 0
ReadsKeep Q first past present = All (λ r. is_read first r ≡ true → Q r.stream (found past present r))

-- each row keeps Q
abbrev pub Keeps : Node → (Q : ℕ → ℤ → Type 0) → (inputs : List ℤ) → (first : Bool) → Type 0
Keeps node Q inputs first =
    (s : ℕ) → s < node.streams → (past present : Values) → ReadsKeep Q first past present (reads (node.equations s)) → Q s (row node inputs first past s present)

module _ (node : Node) (rank : ℕ → ℕ) (ranked : Ranked node rank) (Q : ℕ → ℤ → Type 0) where
  pub instant_keeps : (inputs : List ℤ) (first : Bool) (p v : Values) → Keeps node Q inputs first → Rows node inputs first p v → (first ≡ false → (s : ℕ) → s < node.streams → Q s (p s)) → (k s : ℕ) → s < node.streams → rank s < k → Q s (v s)
  instant_keeps inputs first p v keeps rows past zero s l h = absurd (not-suc-le-zero h)
  instant_keeps inputs first p v keeps rows past (suc k) s l h =
      subst (Q s) (sym (rows s l))
      (keeps s l p v
      (all_map {P = Settled node.streams rank s} {Q = λ r. is_read first r ≡ true → Q r.stream (found p v r)}
      (λ r ok. by_read (λ x y. Q r.stream x) r.now first (v r.stream) (p r.stream) (v r.stream) (p r.stream)
      (λ now. instant_keeps inputs first p v keeps rows past k r.stream ok.below (omega (arith, ok.lower now)))
      (λ e. past e r.stream ok.below))
      (reads (node.equations s)) (ranked s l)))

  pub solution_keeps : (inputs : Inputs) (values : Streams) → AllRows node inputs values → (t : ℕ) → ((j : ℕ) → j ≤ t → Keeps node Q (inputs j) (is_first j)) → (s : ℕ) → s < node.streams → Q s (values t s)
  solution_keeps inputs values rows zero keeps s l =
      instant_keeps (inputs zero) true (before values zero) (values zero) (keeps zero (le_refl zero)) (rows zero) (λ e. absurd (true≢false e)) (suc (rank s)) s l (lt-suc_self (rank s))
  solution_keeps inputs values rows (suc t) keeps s l =
      instant_keeps (inputs (suc t)) false (values t) (values (suc t)) (keeps (suc t) (le_refl (suc t))) (rows (suc t)) (λ e. solution_keeps inputs values rows t (λ j m. keeps j (omega arith))) (suc (rank s)) s l (lt-suc_self (rank s))
