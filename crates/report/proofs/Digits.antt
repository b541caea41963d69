-- `decimal n` is the text of n. Assumes nothing.
use mathlib.Core.Path.{◌≡◌, refl, sym, ap, ◌∙◌}
use Prim.Native.Nat.{ℕ, zero, suc, ◌+◌, ◌-◌, ◌*◌, ◌/◌, ◌%◌, ◌^◌, ◌≤◌, ◌<◌, suc-le-suc}
use mathlib.Core.Bool.{Bool, true, false}
use mathlib.Core.List.{List, [], ◌∷◌, ◌++◌}
use native.Mathlib.Omega.{arith}
use native.Mathlib.Nat.{not-suc-le-zero, le_of_suc-le-suc, le_refl, div-lt_iff_lt-mul, pow-suc}
use lib.Dec.{ltb}
use lib.ListN.{length, get_or, length-append, get_or-append}
use borrow.Author.Tests.{ltb-true, ltb-false, lt-ltb, le-ltb}
use Rattle.report.specs.Decimal.{digit, digits_within, decimal, value_from, Spells}

-- a proof by the two ways that a text is made: of one digit, or of a shorter text and a last digit
module _ (P : ℕ → List ℕ → Type 0)
    (one : (n : ℕ) → n < 10 → P n (digit n ∷ []))
    (more : (n : ℕ) (front : List ℕ) → 10 ≤ n → P (n / 10) front → P n (front ++ (digit (n % 10) ∷ [])))
  where
    turn : (turns n : ℕ) (small : Bool) → ltb n 10 ≡ small → (10 ≤ n → P (n / 10) (digits_within turns (n / 10)))
        → P n (digits_within (suc turns) n)
    unfolding digits_within
    turn turns n true e front = rw e (one n (ltb-true n 10 e))
    turn turns n false e front =
        let large : 10 ≤ n = ltb-false n 10 e in
        rw e (more n (digits_within turns (n / 10)) large (front large))

    within : (turns n : ℕ) → n < turns → P n (digits_within turns n)
    within zero n h = absurd (not-suc-le-zero h)
    within (suc turns) n h = turn turns n (ltb n 10) refl (λ (large : 10 ≤ n). within turns (n / 10) (omega arith))

    pub by_digits : (n : ℕ) → P n (decimal n)
    unfolding decimal
    by_digits n = within (suc n) n (le_refl (suc n))

-- turns beyond those that are enough change nothing
abbrev Same : ℕ → List ℕ → Type 0
Same n text = (turns : ℕ) → n < turns → text ≡ digits_within turns n

same_small : (n : ℕ) → n < 10 → Same n (digit n ∷ [])
unfolding digits_within
same_small n h zero k = absurd (not-suc-le-zero k)
same_small n h (suc turns) k = rw (lt-ltb n 10 h)

same_larger : (n : ℕ) (front : List ℕ) → 10 ≤ n → Same (n / 10) front → Same n (front ++ (digit (n % 10) ∷ []))
unfolding digits_within
same_larger n front h e zero k = absurd (not-suc-le-zero k)
same_larger n front h e (suc turns) k = rw (le-ltb n 10 h, e turns (omega arith))

same : (n : ℕ) → Same n (decimal n)
same = by_digits Same same_small same_larger

pub decimal_small : (n : ℕ) → n < 10 → decimal n ≡ digit n ∷ []
decimal_small n h = same n (suc n) (le_refl (suc n)) ∙ sym (same_small n h (suc n) (le_refl (suc n)))

pub decimal_larger : (n : ℕ) → 10 ≤ n → decimal n ≡ decimal (n / 10) ++ (digit (n % 10) ∷ [])
decimal_larger n h =
    same n (suc n) (le_refl (suc n)) ∙ sym (same_larger n (decimal (n / 10)) h (same (n / 10)) (suc n) (le_refl (suc n)))

pub length_small : (n : ℕ) → n < 10 → length (decimal n) ≡ 1
length_small n h = ap length (decimal_small n h)

pub length_larger : (n : ℕ) → 10 ≤ n → length (decimal n) ≡ length (decimal (n / 10)) + 1
length_larger n h = ap length (decimal_larger n h) ∙ length-append (decimal (n / 10)) (digit (n % 10) ∷ [])

-- a number below 10 ^ (k + 1) has at most k + 1 digits
abbrev Short : ℕ → List ℕ → Type 0
Short n text = (k : ℕ) → n < 10 ^ suc k → length text ≤ suc k

short_small : (n : ℕ) → n < 10 → Short n (digit n ∷ [])
short_small n h k l = omega arith

short_larger : (n : ℕ) (front : List ℕ) → 10 ≤ n → Short (n / 10) front → Short n (front ++ (digit (n % 10) ∷ []))
short_larger n front h s zero l = absurd (omega arith)
short_larger n front h s (suc k) l =
    let less : n / 10 < 10 ^ suc k = (div-lt_iff_lt-mul {k = 10} (omega arith)).1 (rw pow-suc at l) in
    omega (arith, length-append front (digit (n % 10) ∷ []), s k less)

-- a 64-bit number has at most 20
pub twenty : (n : ℕ) → n < 2 ^ 64 → length (decimal n) ≤ 20
twenty n h = by_digits Short short_small short_larger n 19 (omega arith)

-- what holds of each digit before the last, and of the last, holds of each
each : (P : ℕ → Type 0) (front : List ℕ) (d : ℕ) → ((i : ℕ) → i < length front → P (get_or front i 0)) → P d → (i : ℕ)
    → i < length (front ++ (d ∷ [])) → P (get_or (front ++ (d ∷ [])) i 0)
each P [] d f p zero l = p
each P [] d f p (suc i) l = absurd (omega arith)
each P (x ∷ front) d f p zero l = f 0 (omega arith)
each P (x ∷ front) d f p (suc i) l = each P front d (λ k m. f (suc k) (suc-le-suc m)) p i (le_of_suc-le-suc l)

abbrev IsDigit : ℕ → Type 0
IsDigit d = (48 ≤ d) × (d ≤ 57)

-- one digit more is ten times the value, and the digit
value_last : (so_far : ℕ) (ds : List ℕ) (d : ℕ) → value_from so_far (ds ++ (d ∷ [])) ≡ value_from so_far ds * 10 + (d - 48)
unfolding value_from
value_last so_far [] d = refl
value_last so_far (x ∷ ds) d = value_last (so_far * 10 + (x - 48)) ds d

-- the text `0` says 0
zero_alone : (text : List ℕ) → length text ≡ 1 → get_or text 0 0 ≡ 48 → value_from 0 text ≡ 0
unfolding value_from
zero_alone [] l e = refl
zero_alone (x ∷ []) l e = omega arith
zero_alone (x ∷ y ∷ text) l e = absurd (omega arith)

spells_small : (n : ℕ) → n < 10 → Spells (digit n ∷ []) n
unfolding value_from
spells_small n h =
    record {
      some = omega arith;
      digits = each IsDigit [] (digit n) (λ i l. absurd (omega arith)) (omega arith);
      value = omega arith;
      no_leading_zero = λ e. refl;
    }

-- a first digit 0 would stand alone in front, which is then 0, and no number from 10 on has such a front
no_zero_front : (n : ℕ) (front : List ℕ) (d : ℕ) → 10 ≤ n → Spells front (n / 10) → get_or (front ++ (d ∷ [])) 0 0 ≡ 48 → ⊥
no_zero_front n front d h s e =
    let first : get_or front 0 0 ≡ 48 = sym (get_or-append front (d ∷ []) 0 0 s.some) ∙ e in
    omega (arith, zero_alone front (s.no_leading_zero first) first, s.value)

spells_larger : (n : ℕ) (front : List ℕ) → 10 ≤ n → Spells front (n / 10) → Spells (front ++ (digit (n % 10) ∷ [])) n
spells_larger n front h s =
    record {
      some = omega (arith, length-append front (digit (n % 10) ∷ []));
      digits = each IsDigit front (digit (n % 10)) s.digits (omega arith);
      value = value_last 0 front (digit (n % 10)) ∙ omega (arith, s.value);
      no_leading_zero = λ e. absurd (no_zero_front n front (digit (n % 10)) h s e);
    }

pub decimal_spells : (n : ℕ) → Spells (decimal n) n
decimal_spells = by_digits (λ n text. Spells text n) spells_small spells_larger
