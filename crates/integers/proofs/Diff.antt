-- An integer as the difference of two natural numbers, `p ⊖ q`. `omega` reads natural numbers only: `simp zify` carries
-- a statement on differences to one on natural numbers, through →, ×, ¬ and ↔. `by_diff` .. `by_diff6` bring differences in.
use mathlib.Core.Path.{◌≡◌, refl, sym, ap, ◌∙◌, subst}
use mathlib.Core.Logic.{◌↔◌}
use mathlib.Core.Bool.{Bool, true, false, cond}
use Prim.Native.Nat.{ℕ, zero, suc, ◌+◌, ◌*◌, ◌-◌, ◌^◌, ◌<◌, ◌≤◌}
use native.Mathlib.Omega.{arith}
use lib.Dec.{T, leb, ltb, leb→le, le→leb, leb-zero, leb-suc-zero, leb-suc-suc}
use lib.IntN.{ℤ, pos, negsuc, neg_ℤ, suc_ℤ, pred_ℤ, nat_abs, sub_ℕ, ◌+ℤ◌, ◌*ℤ◌}
use lib.Signed.{le_z, lt_z, ◌≤ℤ◌, ◌<ℤ◌, ≤ℤ_refl}
use mir.Syntax.{Width}
use mir.Val.{SFits, hbits}
use borrow.Author.Tests.{ltb-true, ltb-false, leb-true, leb-false, le-leb, lt-leb}

-- shut, so that `simp` sees the call
infixl 55 ◌⊖◌
pub ◌⊖◌ : ℕ → ℕ → ℤ
p ⊖ q = sub_ℕ p q

pub sub_diff : (a b : ℕ) → sub_ℕ a b ≡ a ⊖ b
unfolding ◌⊖◌
sub_diff a b = refl

-- the two ways in which a difference comes out
pub diff_case {ℓ} : (P : ℕ → ℕ → ℤ → Type ℓ) → ((b n : ℕ) → P (b + n) b (pos n)) → ((a n : ℕ) → P a (suc (a + n)) (negsuc n)) → (a b : ℕ) → P a b (a ⊖ b)
unfolding ◌⊖◌
diff_case P f g a b = go (ltb a b) refl
  where
    go : (t : Bool) → ltb a b ≡ t → P a b (cond t (negsuc (b - suc a)) (pos (a - b)))
    go true e = subst (λ (k : ℕ). P a k (negsuc (b - suc a))) (omega (arith, ltb-true a b e)) (g a (b - suc a))
    go false e = subst (λ (k : ℕ). P k b (pos (a - b))) (omega (arith, ltb-false a b e)) (f b (a - b))

-- ---- a number as a difference

pos_is : (n a b : ℕ) → a ≡ b + n → pos n ≡ a ⊖ b
pos_is n = diff_case (λ a b z. a ≡ b + n → pos n ≡ z) (λ b m e. ap pos (omega arith)) (λ a m e. absurd (omega arith))

negsuc_is : (n a b : ℕ) → suc (a + n) ≡ b → negsuc n ≡ a ⊖ b
negsuc_is n = diff_case (λ a b z. suc (a + n) ≡ b → negsuc n ≡ z) (λ b m e. absurd (omega arith)) (λ a m e. ap negsuc (omega arith))

neg_is : (n a b : ℕ) → a + n ≡ b → neg_ℤ (pos n) ≡ a ⊖ b
neg_is zero a b e = pos_is 0 a b (omega arith)
neg_is (suc n) a b e = negsuc_is n a b (omega arith)

pub pos_diff : (n : ℕ) → pos n ≡ n ⊖ 0
pos_diff n = pos_is n n 0 (omega arith)

pub negsuc_diff : (n : ℕ) → negsuc n ≡ 0 ⊖ suc n
negsuc_diff n = negsuc_is n 0 (suc n) (omega arith)

pub neg_pos : (n : ℕ) → neg_ℤ (pos n) ≡ 0 ⊖ n
neg_pos n = neg_is n 0 n (omega arith)

pub diff_eq : (p q r s : ℕ) → p + s ≡ r + q → p ⊖ q ≡ r ⊖ s
diff_eq p q r s = diff_case (λ p q z. p + s ≡ r + q → z ≡ r ⊖ s)
    (λ b n e. pos_is n r s (omega arith)) (λ a n e. negsuc_is n r s (omega arith)) p q

-- what a sum of opposite signs computes to, once its two numbers are differences
pub cond_diff : (a b : ℕ) → cond (ltb a b) (0 ⊖ suc (b - suc a)) ((a - b) ⊖ 0) ≡ a ⊖ b
cond_diff a b = rw (← pos_diff (a - b), ← negsuc_diff (b - suc a)) (sub_diff a b)

-- ---- the operations

pub diff_neg : (p q : ℕ) → neg_ℤ (p ⊖ q) ≡ q ⊖ p
diff_neg = diff_case (λ p q z. neg_ℤ z ≡ q ⊖ p) (λ b n. neg_is n b _ (omega arith)) (λ a n. pos_is (suc n) _ a (omega arith))

pub diff_suc : (p q : ℕ) → suc_ℤ (p ⊖ q) ≡ suc p ⊖ q
diff_suc = diff_case (λ p q z. suc_ℤ z ≡ suc p ⊖ q) (λ b n. pos_is (suc n) _ b (omega arith)) down
  where
    down : (a n : ℕ) → suc_ℤ (negsuc n) ≡ suc a ⊖ suc (a + n)
    down a zero = pos_is 0 _ _ (omega arith)
    down a (suc n) = negsuc_is n _ _ (omega arith)

pub diff_pred : (p q : ℕ) → pred_ℤ (p ⊖ q) ≡ p ⊖ suc q
diff_pred = diff_case (λ p q z. pred_ℤ z ≡ p ⊖ suc q) down (λ a n. negsuc_is (suc n) a _ (omega arith))
  where
    down : (b n : ℕ) → pred_ℤ (pos n) ≡ (b + n) ⊖ suc b
    down b zero = negsuc_is 0 _ _ (omega arith)
    down b (suc n) = pos_is n _ _ (omega arith)

pub diff_add : (p q r s : ℕ) → (p ⊖ q) +ℤ (r ⊖ s) ≡ (p + r) ⊖ (q + s)
diff_add p q r s = diff_case (λ p q z. z +ℤ (r ⊖ s) ≡ (p + r) ⊖ (q + s))
    (λ b n. diff_case (λ r s z. pos n +ℤ z ≡ ((b + n) + r) ⊖ (b + s))
    (λ d m. pos_is (n + m) _ _ (omega arith))
    (λ d m. sub_diff n (suc m) ∙ diff_eq n (suc m) _ _ (omega arith)) r s)
    (λ a n. diff_case (λ r s z. negsuc n +ℤ z ≡ (a + r) ⊖ (suc (a + n) + s))
    (λ d m. sub_diff m (suc n) ∙ diff_eq m (suc n) _ _ (omega arith))
    (λ d m. negsuc_is (suc (n + m)) _ _ (omega arith)) r s)
    p q

pub diff_mul : (p q r s : ℕ) → (p ⊖ q) *ℤ (r ⊖ s) ≡ (p * r + q * s) ⊖ (p * s + q * r)
diff_mul p q r s = diff_case (λ p q z. z *ℤ (r ⊖ s) ≡ (p * r + q * s) ⊖ (p * s + q * r))
    (λ b n. diff_case (λ r s z. pos n *ℤ z ≡ ((b + n) * r + b * s) ⊖ ((b + n) * s + b * r))
    (λ d m. pos_is (n * m) _ _ (omega arith))
    (λ d m. neg_is (n * suc m) _ _ (omega arith)) r s)
    (λ a n. diff_case (λ r s z. negsuc n *ℤ z ≡ (a * r + suc (a + n) * s) ⊖ (a * s + suc (a + n) * r))
    (λ d m. neg_is (suc n * m) _ _ (omega arith))
    (λ d m. pos_is (suc n * suc m) _ _ (omega arith)) r s)
    p q

-- ---- the tests and the orders

leb_same : (a b c d : ℕ) → (a ≤ b → c ≤ d) → (b < a → d < c) → leb a b ≡ leb c d
leb_same a b c d f g = go (leb a b) refl
  where
    go : (t : Bool) → leb a b ≡ t → t ≡ leb c d
    go true e = sym (le-leb c d (f (leb-true a b e)))
    go false e = sym (lt-leb c d (g (leb-false a b e)))

pub leb_yes : (a b : ℕ) → (leb a b ≡ true) ↔ (a ≤ b)
leb_yes a b = (leb-true a b, le-leb a b)

pub leb_no : (a b : ℕ) → (leb a b ≡ false) ↔ (b < a)
leb_no a b = (leb-false a b, lt-leb a b)

pub diff_le_z : (p q r s : ℕ) → le_z (p ⊖ q) (r ⊖ s) ≡ leb (p + s) (r + q)
diff_le_z p q r s = diff_case (λ p q z. le_z z (r ⊖ s) ≡ leb (p + s) (r + q))
    (λ b n. diff_case (λ r s z. le_z (pos n) z ≡ leb ((b + n) + s) (r + b))
    (λ d m. leb_same n m ((b + n) + d) ((d + m) + b) (omega arith) (omega arith))
    (λ d m. sym (lt-leb ((b + n) + suc (d + m)) (d + b) (omega arith))) r s)
    (λ a n. diff_case (λ r s z. le_z (negsuc n) z ≡ leb (a + s) (r + suc (a + n)))
    (λ d m. sym (le-leb (a + d) ((d + m) + suc (a + n)) (omega arith)))
    (λ d m. leb_same m n (a + suc (d + m)) (d + suc (a + n)) (omega arith) (omega arith)) r s)
    p q

lt_z_suc : (a b : ℤ) → lt_z a b ≡ le_z (suc_ℤ a) b
lt_z_suc (pos a) (pos b) = refl
lt_z_suc (pos a) (negsuc b) = refl
lt_z_suc (negsuc zero) (pos b) = sym (leb-zero b)
lt_z_suc (negsuc (suc a)) (pos b) = refl
lt_z_suc (negsuc zero) (negsuc b) = leb-suc-zero b
lt_z_suc (negsuc (suc a)) (negsuc b) = leb-suc-suc b a

pub diff_lt_z : (p q r s : ℕ) → lt_z (p ⊖ q) (r ⊖ s) ≡ ltb (p + s) (r + q)
diff_lt_z p q r s =
    lt_z_suc (p ⊖ q) (r ⊖ s) ∙ ap (λ (z : ℤ). le_z z (r ⊖ s)) (diff_suc p q) ∙ diff_le_z (suc p) q r s
    ∙ ap (λ (n : ℕ). leb n (r + q)) (omega arith)

pub diff-≤ : (p q r s : ℕ) → (p ⊖ q ≤ℤ r ⊖ s) ↔ (p + s ≤ r + q)
diff-≤ p q r s = (λ h. leb→le _ _ (subst T (diff_le_z p q r s) h.le), λ h. record { le = subst T (sym (diff_le_z p q r s)) (le→leb _ _ h) })

pub diff-< : (p q r s : ℕ) → (p ⊖ q <ℤ r ⊖ s) ↔ (p + s < r + q)
diff-< p q r s = (λ h. leb→le _ _ (subst T (diff_lt_z p q r s) h.lt), λ h. record { lt = subst T (sym (diff_lt_z p q r s)) (le→leb _ _ h) })

pub diff-≡ : (p q r s : ℕ) → (p ⊖ q ≡ r ⊖ s) ↔ (p + s ≡ r + q)
diff-≡ p q r s = (
  λ e. let a = (diff-≤ p q r s).0 (subst (λ (z : ℤ). p ⊖ q ≤ℤ z) e (≤ℤ_refl (p ⊖ q))) in
      let b = (diff-≤ r s p q).0 (subst (λ (z : ℤ). z ≤ℤ p ⊖ q) e (≤ℤ_refl (p ⊖ q))) in
      omega arith,
  diff_eq p q r s,
)

-- ---- the range of a width, and the magnitude

pub diff_sfits : (w : Width) (p q : ℕ) → SFits w (p ⊖ q) ↔ ((p < 2 ^ hbits w + q) × (q ≤ 2 ^ hbits w + p))
diff_sfits w = diff_case (λ p q z. SFits w z ↔ ((p < 2 ^ hbits w + q) × (q ≤ 2 ^ hbits w + p))) (λ b n. omega arith) (λ a n. omega arith)

pub diff_abs : (p q n : ℕ) → (nat_abs (p ⊖ q) ≤ n) ↔ ((p ≤ n + q) × (q ≤ n + p))
diff_abs p q n = diff_case (λ p q z. (nat_abs z ≤ n) ↔ ((p ≤ n + q) × (q ≤ n + p))) (λ b m. omega arith) (λ a m. omega arith) p q

pub ruleset zify = (diff_add, diff_neg, diff_mul, diff_suc, diff_pred, diff_le_z, diff_lt_z, diff-≤, diff-<, diff-≡, diff_sfits, diff_abs, leb_yes, leb_no, neg_pos, cond_diff, pos_diff, negsuc_diff)

-- ---- to show a law of integers, show it of differences

pub by_diff {ℓ} : (P : ℤ → Type ℓ) → ((p q : ℕ) → P (p ⊖ q)) → (z : ℤ) → P z
by_diff P f (pos n) = subst P (sym (pos_diff n)) (f n 0)
by_diff P f (negsuc n) = subst P (sym (negsuc_diff n)) (f 0 (suc n))

pub by_diff2 {ℓ} : (P : ℤ → ℤ → Type ℓ) → ((p q r s : ℕ) → P (p ⊖ q) (r ⊖ s)) → (a b : ℤ) → P a b
by_diff2 P f a = by_diff (P a) (λ r s. by_diff (λ a. P a (r ⊖ s)) (λ p q. f p q r s) a)

pub by_diff3 {ℓ} : (P : ℤ → ℤ → ℤ → Type ℓ) → ((p q r s t u : ℕ) → P (p ⊖ q) (r ⊖ s) (t ⊖ u)) → (a b c : ℤ) → P a b c
by_diff3 P f a b = by_diff (P a b) (λ t u. by_diff2 (λ a b. P a b (t ⊖ u)) (λ p q r s. f p q r s t u) a b)

pub by_diff4 {ℓ} : (P : ℤ → ℤ → ℤ → ℤ → Type ℓ) → ((p q r s t u v w : ℕ) → P (p ⊖ q) (r ⊖ s) (t ⊖ u) (v ⊖ w)) → (a b c d : ℤ) → P a b c d
by_diff4 P f a b c = by_diff (P a b c) (λ v w. by_diff3 (λ a b c. P a b c (v ⊖ w)) (λ p q r s t u. f p q r s t u v w) a b c)

pub by_diff5 {ℓ} : (P : ℤ → ℤ → ℤ → ℤ → ℤ → Type ℓ) → ((p q r s t u v w x y : ℕ) → P (p ⊖ q) (r ⊖ s) (t ⊖ u) (v ⊖ w) (x ⊖ y)) → (a b c d e : ℤ) → P a b c d e
by_diff5 P f a b c d = by_diff (P a b c d) (λ x y. by_diff4 (λ a b c d. P a b c d (x ⊖ y)) (λ p q r s t u v w. f p q r s t u v w x y) a b c d)

pub by_diff6 {ℓ} : (P : ℤ → ℤ → ℤ → ℤ → ℤ → ℤ → Type ℓ) → ((p q r s t u v w x y k l : ℕ) → P (p ⊖ q) (r ⊖ s) (t ⊖ u) (v ⊖ w) (x ⊖ y) (k ⊖ l)) → (a b c d e f : ℤ) → P a b c d e f
by_diff6 P h a b c d e = by_diff (P a b c d e) (λ k l. by_diff5 (λ a b c d e. P a b c d e (k ⊖ l)) (λ p q r s t u v w x y. h p q r s t u v w x y k l) a b c d e)
