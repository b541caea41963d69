-- The ranges of an operator's results: what lies in them, and that both ends are results.
-- Assumes nothing.
use mathlib.Core.Path.{◌≡◌, refl}
use mathlib.Core.Bool.{true}
use Prim.Native.Nat.{ℕ, zero-le}
use borrow.Author.Tests.{le-leb}
use lib.IntN.{ℤ, pos, negsuc, ◌+ℤ◌, ◌-ℤ◌, ◌*ℤ◌}
use lib.Signed.{le_z, ◌≤ℤ◌}
use Rattle.integers.specs.Range.{lesser, greater}
use Rattle.integers.proofs.Extremes.{lesser_mono, greater_mono}
use Rattle.integers.proofs.Order.{≤ℤ_refl, ≤ℤ-trans, le_z_true, +ℤ-mono, -ℤ-mono, *ℤ-mono, *ℤ-flips}
use Rattle.answers.proofs.Tests.{both_true}
use Rattle.ranges.specs.declared.table.Range.{Range}
use Rattle.ranges.specs.Results.{ResultsOf, single, rising, difference_of, multiple_of, is_inside}
use Rattle.ranges.specs.Table.{In}
use Rattle.ranges.specs.Theorems.{NotReversed, ResultsAre}

-- what lies in a range lies in one that holds it
pub wider : (own r : Range) (z : ℤ) → is_inside own r ≡ true → In r z → In own z
unfolding is_inside
wider own r z e h =
    let inside = both_true (le_z own.least r.least) (le_z r.greatest own.greatest) e in
    record {
      above = ≤ℤ-trans _ _ _ ((le_z_true _ _).0 inside.0) h.above;
      below = ≤ℤ-trans _ _ _ h.below ((le_z_true _ _).0 inside.1);
    }

-- the ends of a range lie in it
at_least : (r : Range) → NotReversed r → In r r.least
at_least r o = record { above = ≤ℤ_refl _; below = o }

at_greatest : (r : Range) → NotReversed r → In r r.greatest
at_greatest r o = record { above = o; below = ≤ℤ_refl _ }

pub in_single : (k : ℤ) → In (single k) k
in_single k = record { above = ≤ℤ_refl k; below = ≤ℤ_refl k }

-- ---- results that rise with both operands

module _ (op : ℤ → ℤ → ℤ) (mono : (a b c d : ℤ) → a ≤ℤ b → c ≤ℤ d → op a c ≤ℤ op b d) (a b : Range) where
  pub in_rising : (x y : ℤ) → In a x → In b y → In (rising op a b) (op x y)
  in_rising x y h k = record { above = mono _ _ _ _ h.above k.above; below = mono _ _ _ _ h.below k.below }

  rising_results : NotReversed a → NotReversed b → ResultsOf op a b (rising op a b)
  rising_results o p =
      record {
        within = in_rising;
        least = (a.least, (b.least, (at_least a o, at_least b p, refl)));
        greatest = (a.greatest, (b.greatest, (at_greatest a o, at_greatest b p, refl)));
      }

-- ---- differences: they rise with a and fall with b

pub in_difference : (a b : Range) (x y : ℤ) → In a x → In b y → In (difference_of a b) (x -ℤ y)
in_difference a b x y h k = record { above = -ℤ-mono _ _ _ _ h.above k.below; below = -ℤ-mono _ _ _ _ h.below k.above }

difference_results : (a b : Range) → NotReversed a → NotReversed b → ResultsOf (λ x y. x -ℤ y) a b (difference_of a b)
difference_results a b o p =
    record {
      within = in_difference a b;
      least = (a.least, (b.greatest, (at_least a o, at_greatest b p, refl)));
      greatest = (a.greatest, (b.least, (at_greatest a o, at_least b p, refl)));
    }

-- ---- multiples: from 0 on a factor keeps the order, below 0 it turns it round

module _ (n : ℕ) (a : Range) where
  multiple_rises : multiple_of (pos n) a ≡ rising (λ x y. pos n *ℤ x) a a
  unfolding multiple_of
  multiple_rises = rw (le-leb 0 n zero-le)

pub in_multiple : (k : ℤ) (a : Range) (x : ℤ) → In a x → In (multiple_of k a) (k *ℤ x)
unfolding multiple_of
in_multiple (pos n) a x h = rw (multiple_rises n a) (in_rising (λ x y. pos n *ℤ x) (λ c d e f l m. *ℤ-mono n c d l) a a x x h h)
in_multiple (negsuc n) a x h = record { above = *ℤ-flips n _ _ h.below; below = *ℤ-flips n _ _ h.above }

multiple_results : (k : ℤ) (a : Range) → NotReversed a → ResultsOf (λ x y. k *ℤ x) a a (multiple_of k a)
unfolding multiple_of
multiple_results (pos n) a o = rw (multiple_rises n a) (rising_results (λ x y. pos n *ℤ x) (λ c d e f l m. *ℤ-mono n c d l) a a o o)
multiple_results (negsuc n) a o =
    record {
      within = λ x y h k. in_multiple (negsuc n) a x h;
      least = (a.greatest, (a.greatest, (at_greatest a o, at_greatest a o, refl)));
      greatest = (a.least, (a.least, (at_least a o, at_least a o, refl)));
    }

pub results_are : ResultsAre
results_are =
    record {
      sum = rising_results ◌+ℤ◌ +ℤ-mono;
      difference = difference_results;
      multiple = multiple_results;
      lesser = rising_results lesser lesser_mono;
      greater = rising_results greater greater_mono;
    }
