-- Entries of a list, and numbers below a literal: what holds of each, one by one, holds of every one.
-- Assumes nothing.
use mathlib.Core.Path.{◌≡◌, refl, sym, ◌∙◌, subst}
use mathlib.Core.Logic.{⊎_elim}
use mathlib.Core.List.{List, [], ◌∷◌}
use Prim.Native.Nat.{ℕ, zero, suc, ◌+◌, ◌<◌, ◌≤◌, zero-le}
use native.Mathlib.Nat.{not-suc-le-zero, le_of_suc-le-suc, eq-or-lt_of_le}
use native.Mathlib.Omega.{arith}
use borrow.Author.Count.{below_more}
use lib.ListN.{length, get_or, set}
use lib.Seq.{get_or-set_same, get_or-set_other}

-- within the list, what stands for a missing entry does not matter
pub entry_any : {A : Type 0} (l : List A) (i : ℕ) (d e : A) → i < length l → get_or l i d ≡ get_or l i e
entry_any [] i d e l = absurd (not-suc-le-zero l)
entry_any (x ∷ xs) zero d e l = refl
entry_any (x ∷ xs) (suc i) d e l = entry_any xs i d e (le_of_suc-le-suc l)

-- a list that holds f k at each k below i, with one entry more
pub entries_more : {A : Type 0} (f : ℕ → A) (d : A) (l : List A) (i : ℕ) {x : A} → ((k : ℕ) → k < i → get_or l k d ≡ f k) → i < length l → x ≡ f i → (k : ℕ) → k < i + 1 → get_or (set l i x) k d ≡ f k
entries_more f d l i {x} hold m e = below_more (λ (k : ℕ). get_or (set l i x) k d ≡ f k) i (λ k h. get_or-set_other l i k x d (λ (p : k ≡ i). omega arith) ∙ hold k h) (get_or-set_same l i x d m ∙ e)

-- P of each number below n, one by one
abbrev pub Each : (ℕ → Type 0) → ℕ → Type 0
Each P zero = Unit {0}
Each P (suc n) = Each P n × P n

pub each : (P : ℕ → Type 0) (n : ℕ) → Each P n → (k : ℕ) → k < n → P k
each P zero ps k l = absurd (not-suc-le-zero l)
each P (suc n) ps k l =
    ⊎_elim (λ (e : k ≡ n). subst P (sym e) ps.1) (λ (m : k < n). each P n ps.0 k m)
    (eq-or-lt_of_le (le_of_suc-le-suc l))

-- what the last arm of a `match` knows of a number: it is none of those below n
abbrev pub Rest : ℕ → ℕ → Type 0
Rest x zero = Unit {0}
Rest x (suc n) = Rest x n × (x ≡ n → ⊥)

pub rest_le : (n x : ℕ) → Rest x n → n ≤ x
rest_le zero x r = zero-le
rest_le (suc n) x r = omega (arith, rest_le n x r.0, r.1)
