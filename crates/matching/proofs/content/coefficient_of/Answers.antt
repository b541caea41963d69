-- `matching::coefficient_of` meets its contract: the three shares, whose sum fits since each is small.
use mathlib.Core.Path.{◌≡◌, sym, ◌∙◌, ap₂}
use Prim.Native.Nat.{ℕ, ◌≤◌}
use native.Mathlib.Omega.{arith}
use lib.IntN.{ℤ, nat_abs, ◌+ℤ◌}
use mir.Syntax.{w64}
use mir.Val.{SFits}
use Rattle.integers.proofs.Abs.{abs_fits}
use Rattle.integers.proofs.Reading.{rd}
use Rattle.constraints.specs.Linear.{coefficient}
use Rattle.rules.specs.declared.pattern.Linear.{Linear}
use Rattle.rules.specs.Clauses.{bounded_of}
use Rattle.matching.specs.Content.{share, Summable}
use Rattle.matching.proofs.Coefficients.{share_limit, share_read, three_shares, inner_fits, outer_fits, sum_of_three}
use Rattle.matching.proofs.content.coefficient_of.Goals as goal

-- the three shares, as the definition has them
module _ (d : Linear) (x : ℕ) (ok : Summable d) (l m n : ℤ) where
  abbrev Read : (of : ℕ) (times : ℤ) → ℤ → Type 0
  Read of times z = z ≡ share (record { of = of; times = rd w64 times }) x

  module _ (e : Read d.x d.a l) (f : Read d.y d.b m) (g : Read d.z d.c n) where
    first : l ≡ share (record { of = d.x; times = d.a }) x
    first = e ∙ share_read d.x d.a x (abs_fits w64 d.a (omega (arith, ok.a)))

    second : m ≡ share (record { of = d.y; times = d.b }) x
    second = f ∙ share_read d.y d.b x (abs_fits w64 d.b (omega (arith, ok.b)))

    third : n ≡ share (record { of = d.z; times = d.c }) x
    third = g ∙ share_read d.z d.c x (abs_fits w64 d.c (omega (arith, ok.c)))

    first_small : nat_abs l ≤ 100000000000
    first_small = rw first (share_limit (record { of = d.x; times = d.a }) x 100000000000 ok.a)

    second_small : nat_abs m ≤ 8000000000000000000
    second_small = rw second (share_limit (record { of = d.y; times = d.b }) x 8000000000000000000 ok.b)

    third_small : nat_abs n ≤ 100000000000
    third_small = rw third (share_limit (record { of = d.z; times = d.c }) x 100000000000 ok.c)

    inner : SFits w64 (rd w64 m +ℤ rd w64 n)
    inner = inner_fits l m n first_small second_small third_small

    outer : SFits w64 (rd w64 l +ℤ rd w64 (rd w64 m +ℤ rd w64 n))
    outer = outer_fits l m n first_small second_small third_small

    sum_is : rd w64 (rd w64 l +ℤ rd w64 (rd w64 m +ℤ rd w64 n)) ≡ coefficient (bounded_of d).form x
    sum_is =
        sum_of_three l m n first_small second_small third_small
        ∙ ap₂ ◌+ℤ◌ first (ap₂ ◌+ℤ◌ second third)
        ∙ sym (three_shares _ _ _ x)

pub overflow_add-result : goal.overflow_add-result
overflow_add-result c = inner c.args.d c.args.x c.requires c.share.result c.share-2.result c.share-3.result c.share.ensures c.share-2.ensures c.share-3.ensures

pub overflow_add-result-2 : goal.overflow_add-result-2
overflow_add-result-2 c = outer c.args.d c.args.x c.requires c.share.result c.share-2.result c.share-3.result c.share.ensures c.share-2.ensures c.share-3.ensures

pub returns : goal.returns
returns c = sum_is c.args.d c.args.x c.requires c.share.result c.share-2.result c.share-3.result c.share.ensures c.share-2.ensures c.share-3.ensures
