-- Lists of numbers that are all different and below n: they have at most n, and n where they have all. And the place of a number in a list.
-- Assumes nothing.
use mathlib.Core.Path.{◌≡◌, refl, sym, ◌∙◌, ap, subst}
use mathlib.Core.Logic.{◌⊎◌, inl, inr, ◌≢◌}
use mathlib.Core.Bool.{Bool, true, false, cond, ◌||◌, false≢true, true≢false}
use mathlib.Core.List.{List, [], ◌∷◌, ◌++◌}
use Prim.Native.Nat.{ℕ, zero, suc, ◌<◌, ◌≤◌, suc-le-suc}
use native.Mathlib.Nat.{not-suc-le-zero, le_of_suc-le-suc}
use native.Mathlib.Omega.{arith}
use borrow.Author.Tests.{eqb-true, eq-eqb, ne_eqb}
use lib.Dec.{eqb}
use lib.ListN.{length, get_or}
use Rattle.answers.proofs.Tests.{either_true}
use Rattle.node.specs.Order.{is_among, place_in}

-- what is equal on the left is among
pub or_left : {a : Bool} (b : Bool) → a ≡ true → (a || b) ≡ true
or_left b e = rw e

pub or_right : (a : Bool) {b : Bool} → b ≡ true → (a || b) ≡ true
or_right true e = refl
or_right false e = e

-- neither of two
pub neither : (a b : Bool) → (a || b) ≡ false → (a ≡ false) × (b ≡ false)
neither true b e = absurd (true≢false e)
neither false b e = (refl, e)

eqb_false_ne : {x y : ℕ} → eqb x y ≡ false → x ≢ y
eqb_false_ne {x} {y} e p = true≢false (sym (eq-eqb x y p) ∙ e)

pub among_append : (xs : List ℕ) (i x : ℕ) → is_among (xs ++ (i ∷ [])) x ≡ (is_among xs x || eqb i x)
unfolding is_among
among_append [] i x = by_or (eqb i x)
  where
    by_or : (b : Bool) → (b || false) ≡ b
    by_or true = refl
    by_or false = refl
among_append (y ∷ xs) i x = assoc (eqb y x) (among_append xs i x)
  where
    assoc : (b : Bool) → is_among (xs ++ (i ∷ [])) x ≡ (is_among xs x || eqb i x) → (b || is_among (xs ++ (i ∷ [])) x) ≡ ((b || is_among xs x) || eqb i x)
    assoc true e = refl
    assoc false e = e

-- ---- all different, and below n

unfoldable pub Distinct : ℕ → List ℕ → Type 0
Distinct n [] = Unit {0}
Distinct n (x ∷ xs) = (x < n) × (is_among xs x ≡ false) × Distinct n xs

pub distinct_more : (n : ℕ) (xs : List ℕ) (i : ℕ) → Distinct n xs → i < n → is_among xs i ≡ false → Distinct n (xs ++ (i ∷ []))
unfolding is_among Distinct
distinct_more n [] i d l e = (l, refl, tt)
distinct_more n (x ∷ xs) i d l e =
    let no = neither (eqb x i) (is_among xs i) e in
    (d.0, among_append xs i x ∙ rw d.1 (ne_eqb i x (λ p. eqb_false_ne no.0 (sym p))), distinct_more n xs i d.2 l no.1)

pub names : (n : ℕ) (xs : List ℕ) → Distinct n xs → (k : ℕ) → k < length xs → get_or xs k 0 < n
unfolding Distinct
names n [] d k l = absurd (not-suc-le-zero l)
names n (x ∷ xs) d zero l = d.0
names n (x ∷ xs) d (suc k) l = names n xs d.2 k (le_of_suc-le-suc l)

among_at : (xs : List ℕ) (k : ℕ) → k < length xs → is_among xs (get_or xs k 0) ≡ true
unfolding is_among
among_at [] k l = absurd (not-suc-le-zero l)
among_at (x ∷ xs) zero l = or_left (is_among xs x) (eq-eqb x x refl)
among_at (x ∷ xs) (suc k) l = or_right (eqb x (get_or xs k 0)) (among_at xs k (le_of_suc-le-suc l))

-- ---- the place of a number

pub place_below : (xs : List ℕ) (i : ℕ) → is_among xs i ≡ true → place_in xs i < length xs
unfolding is_among
place_below [] i e = absurd (false≢true e)
place_below (x ∷ xs) i e = go (eqb x i) e (place_below xs i)
  where
    go : (b : Bool) → (b || is_among xs i) ≡ true → (is_among xs i ≡ true → place_in xs i < length xs) → cond b 0 (suc (place_in xs i)) < suc (length xs)
    go true h ih = omega arith
    go false h ih = suc-le-suc (ih h)

pub at_place_is : (xs : List ℕ) (i : ℕ) → is_among xs i ≡ true → get_or xs (place_in xs i) 0 ≡ i
unfolding is_among
at_place_is [] i e = absurd (false≢true e)
at_place_is (x ∷ xs) i e = go (eqb x i) refl e (at_place_is xs i)
  where
    go : (b : Bool) → eqb x i ≡ b → (b || is_among xs i) ≡ true → (is_among xs i ≡ true → get_or xs (place_in xs i) 0 ≡ i) → get_or (x ∷ xs) (cond b 0 (suc (place_in xs i))) 0 ≡ i
    go true p h ih = eqb-true x i p
    go false p h ih = ih h

pub place_stays : (xs ys : List ℕ) (i : ℕ) → is_among xs i ≡ true → place_in (xs ++ ys) i ≡ place_in xs i
unfolding is_among
place_stays [] ys i e = absurd (false≢true e)
place_stays (x ∷ xs) ys i e = go (eqb x i) e (place_stays xs ys i)
  where
    go : (b : Bool) → (b || is_among xs i) ≡ true → (is_among xs i ≡ true → place_in (xs ++ ys) i ≡ place_in xs i) → cond b 0 (suc (place_in (xs ++ ys) i)) ≡ cond b 0 (suc (place_in xs i))
    go true h ih = refl
    go false h ih = ap suc (ih h)

pub place_last : (xs : List ℕ) (i : ℕ) → is_among xs i ≡ false → place_in (xs ++ (i ∷ [])) i ≡ length xs
unfolding is_among
place_last [] i e = rw (eq-eqb i i refl)
place_last (x ∷ xs) i e =
    let no = neither (eqb x i) (is_among xs i) e in
    rw no.0 (ap suc (place_last xs i no.1))

pub once : (n : ℕ) (xs : List ℕ) → Distinct n xs → (k : ℕ) → k < length xs → place_in xs (get_or xs k 0) ≡ k
unfolding Distinct
once n [] d k l = absurd (not-suc-le-zero l)
once n (x ∷ xs) d zero l = rw (eq-eqb x x refl)
once n (x ∷ xs) d (suc k) l =
    let m = le_of_suc-le-suc l in
    let other : eqb x (get_or xs k 0) ≡ false = ne_eqb x (get_or xs k 0) (λ p. true≢false (sym (among_at xs k m) ∙ ap (is_among xs) (sym p) ∙ d.1)) in
    rw other (ap suc (once n xs d.2 k m))

-- ---- how many there are

abbrev without : ℕ → List ℕ → List ℕ
without x [] = []
without x (y ∷ ys) = cond (eqb y x) ys (y ∷ without x ys)

among_without : (x z : ℕ) (ys : List ℕ) → is_among ys z ≡ false → is_among (without x ys) z ≡ false
unfolding is_among
among_without x z [] e = e
among_without x z (y ∷ ys) e =
    let no = neither (eqb y z) (is_among ys z) e in
    go (eqb y x) no.0 no.1 (among_without x z ys no.1)
  where
    go : (b : Bool) → eqb y z ≡ false → is_among ys z ≡ false → is_among (without x ys) z ≡ false → is_among (cond b ys (y ∷ without x ys)) z ≡ false
    go true p q ih = q
    go false p q ih = rw p ih

kept_without : (x z : ℕ) (ys : List ℕ) → z ≢ x → is_among ys z ≡ true → is_among (without x ys) z ≡ true
unfolding is_among
kept_without x z [] n e = e
kept_without x z (y ∷ ys) n e = go (eqb y x) refl (either_true (eqb y z) (is_among ys z) e) (kept_without x z ys n)
  where
    go : (b : Bool) → eqb y x ≡ b → (eqb y z ≡ true) ⊎ (is_among ys z ≡ true) → (is_among ys z ≡ true → is_among (without x ys) z ≡ true) → is_among (cond b ys (y ∷ without x ys)) z ≡ true
    go true p (inl q) ih = absurd (n (sym (eqb-true y z q) ∙ eqb-true y x p))
    go true p (inr q) ih = q
    go false p (inl q) ih = or_left (is_among (without x ys) z) q
    go false p (inr q) ih = or_right (eqb y z) (ih q)

fewer : (x : ℕ) (ys : List ℕ) → is_among ys x ≡ true → suc (length (without x ys)) ≡ length ys
unfolding is_among
fewer x [] e = absurd (false≢true e)
fewer x (y ∷ ys) e = go (eqb y x) e (fewer x ys)
  where
    go : (b : Bool) → (b || is_among ys x) ≡ true → (is_among ys x ≡ true → suc (length (without x ys)) ≡ length ys) → suc (length (cond b ys (y ∷ without x ys))) ≡ suc (length ys)
    go true h ih = refl
    go false h ih = ap suc (ih h)

-- a list with all numbers below n has n or more
pub covers : (n : ℕ) (xs : List ℕ) → ((i : ℕ) → i < n → is_among xs i ≡ true) → n ≤ length xs
covers zero xs h = omega arith
covers (suc n) xs h =
    omega (arith, covers n (without n xs) (λ i l. kept_without n i xs (λ p. omega arith) (h i (omega arith))), fewer n xs (h n (omega arith)))

-- different numbers below suc n, without n: below n
lower : (n : ℕ) (xs : List ℕ) → Distinct (suc n) xs → is_among xs n ≡ false → Distinct n xs
unfolding is_among Distinct
lower n [] d e = tt
lower n (x ∷ xs) d e =
    let no = neither (eqb x n) (is_among xs n) e in
    let other : x ≢ n = eqb_false_ne no.0 in
    (omega (arith, d.0, other), d.1, lower n xs d.2 no.1)

removed : (n : ℕ) (xs : List ℕ) → Distinct (suc n) xs → Distinct n (without n xs) × (length xs ≤ suc (length (without n xs)))
unfolding Distinct
removed n [] d = (tt, omega arith)
removed n (x ∷ xs) d = go (eqb x n) refl (removed n xs d.2)
  where
    go : (b : Bool) → eqb x n ≡ b → Distinct n (without n xs) × (length xs ≤ suc (length (without n xs))) → Distinct n (cond b xs (x ∷ without n xs)) × (suc (length xs) ≤ suc (length (cond b xs (x ∷ without n xs))))
    go true p ih = (lower n xs d.2 (subst (λ (z : ℕ). is_among xs z ≡ false) (eqb-true x n p) d.1), omega arith)
    go false p ih =
        let other : x ≢ n = eqb_false_ne p in
        ((omega (arith, d.0, other), among_without n x xs d.1, ih.0), omega (arith, ih.1))

-- different numbers below n are at most n
pub bounded : (n : ℕ) (xs : List ℕ) → Distinct n xs → length xs ≤ n
unfolding Distinct
bounded zero [] d = omega arith
bounded zero (x ∷ xs) d = absurd (not-suc-le-zero d.0)
bounded (suc n) xs d = omega (arith, bounded n (without n xs) (removed n xs d).0, (removed n xs d).1)
