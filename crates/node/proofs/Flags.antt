-- Flags of placed records, and what records need, against the order so far: the tests that are made of them are the definition's.
-- Assumes nothing.
use mathlib.Core.Path.{◌≡◌, refl, sym, ◌∙◌, ap}
use mathlib.Core.Bool.{Bool, true, false, not, cond, ◌&&◌, or-false}
use mathlib.Core.List.{List, [], ◌∷◌, ◌++◌}
use Prim.Native.Nat.{ℕ, ◌<◌, ◌≤◌}
use native.Mathlib.Decide.{ℕ_discrete}
use native.Mathlib.Omega.{arith}
use Rattle.std.proofs.Math.Nat.{min-eq_left}
use borrow.Author.Tests.{ltb-true, eq-eqb, ne_eqb}
use lib.ListN.{length, set, replicate, get_or-replicate}
use lib.Seq.{get_or-set_same, get_or-set_other}
use Rattle.node.specs.declared.layout.Record.{Record}
use Rattle.node.specs.declared.table.Operand.{Operand}
use Rattle.node.specs.declared.table.Operand.TheVariants.{Unused, Now, Before}
use Rattle.node.specs.declared.table.Row.{Row}
use Rattle.node.specs.Equations.{decoded}
use Rattle.node.specs.Order.{is_among, all_among}
use Rattle.node.specs.declared.ordering.Needs.{Needs}
use Rattle.node.specs.Ordering.{no_stream, needed_as, needs_in, needs_at, is_placed, ready_by}
use Rattle.node.specs.Reads.{Read, reading, needed_in, needed_now}
use Rattle.node.specs.Rules.{shape_ok, is_stream, operands_ok}
use Rattle.node.specs.Table.{row_of}
use Rattle.node.proofs.Different.{among_append, or_right}
use Rattle.node.proofs.Needs.{operand_streams, needed_is}

-- ---- flags

-- flags that say of each record whether it is placed, and of what is no stream that it is
pub record Flagging (flags : List Bool) (order : List ℕ) : Type 0 where
  pub size : length flags ≡ 256
  pub says : (x : ℕ) → x < 64 → is_placed flags x ≡ is_among order x
  pub none : is_placed flags no_stream ≡ true

-- before the first turn
abbrev pub none_placed : List Bool
none_placed = set (replicate 256 false) no_stream true

pub flagging_none : Flagging none_placed []
unfolding is_among
flagging_none =
    record {
      size = refl;
      says = λ x l. rw (get_or-set_other (replicate 256 false) no_stream x true false (λ e. omega arith), get_or-replicate {A = Bool} 256 x false false (omega arith));
      none = refl;
    }

pub flagged_set : (flags : List Bool) (i x : ℕ) → i < length flags → is_placed flags x ≡ true → is_placed (set flags i true) x ≡ true
flagged_set flags i x l e = go (ℕ_discrete x i)
  where
    go : Dec (x ≡ i) → is_placed (set flags i true) x ≡ true
    go (yes p) = rw (p, get_or-set_same flags i true false l)
    go (no n) = rw (get_or-set_other flags i x true false n) e

pub flagged_own : (flags : List Bool) (i : ℕ) → i < length flags → is_placed (set flags i true) i ≡ true
flagged_own flags i l = rw (get_or-set_same flags i true false l)

module _ (flags : List Bool) (order : List ℕ) (flagging : Flagging flags order) where
  pub flagging_more : (i : ℕ) → i < 64 → length (set flags i true) ≡ 256 → Flagging (set flags i true) (order ++ (i ∷ []))
  flagging_more i l size =
      record {
        size = size;
        says = λ x m. go x m (ℕ_discrete x i);
        none = flagged_set flags i no_stream (omega (arith, flagging.size)) flagging.none;
      }
    where
      go : (x : ℕ) → x < 64 → Dec (x ≡ i) → is_placed (set flags i true) x ≡ is_among (order ++ (i ∷ [])) x
      go x m (yes p) = rw p (flagged_own flags i (omega (arith, flagging.size)) ∙ sym (among_append order i i ∙ or_right (is_among order i) (eq-eqb i i refl)))
      go x m (no n) =
          rw (get_or-set_other flags i x true false n)
          (flagging.says x m ∙ sym (among_append order i x ∙ rw (ne_eqb i x (λ p. n (sym p))) (or-false (is_among order x))))

  -- ---- one operand, as the row reads it

  module _ (n : ℕ) (few : n ≤ 64) where
    operand_is : (operand : Operand) (x : ℕ) → is_stream operand n x ≡ true → all_among order (needed_in (reading operand x)) ≡ is_placed flags (needed_as operand x)
    operand_is Unused x e = sym flagging.none
    operand_is (Now wanted) x e = let l = ltb-true x n e in rw (min-eq_left (small x l)) (and_true (is_among order x) ∙ sym (flagging.says x (omega arith)))
      where
        small : (x : ℕ) → x < n → x ≤ no_stream
        small x l = omega arith

        and_true : (b : Bool) → (b && true) ≡ b
        and_true true = refl
        and_true false = refl
    operand_is (Before wanted) x e = sym flagging.none

    -- ---- a record

    all_append : (xs ys : List Read) → all_among order (needed_in (xs ++ ys)) ≡ (all_among order (needed_in xs) && all_among order (needed_in ys))
    all_append [] ys = refl
    all_append (r ∷ xs) ys = go r.now (all_append xs ys)
      where
        and_assoc : (a b c : Bool) → (a && (b && c)) ≡ ((a && b) && c)
        and_assoc true b c = refl
        and_assoc false b c = refl

        go : (b : Bool) → all_among order (needed_in (xs ++ ys)) ≡ (all_among order (needed_in xs) && all_among order (needed_in ys)) → all_among order (cond b (r.stream ∷ needed_in (xs ++ ys)) (needed_in (xs ++ ys))) ≡ (all_among order (cond b (r.stream ∷ needed_in xs) (needed_in xs)) && all_among order (needed_in ys))
        go true e = ap (λ (t : Bool). is_among order r.stream && t) e ∙ and_assoc (is_among order r.stream) _ _
        go false e = e

    module _ (r : Record) (shape : shape_ok r ≡ true) (operands : operands_ok n r ≡ true) where
      abbrev row : Row
      row = row_of r.op

      abbrev flag : Operand → ℕ → Bool
      flag operand x = is_placed flags (needed_as operand x)

      streams : (is_stream row.a n r.a ≡ true) × (is_stream row.b n r.b ≡ true) × (is_stream row.c n r.c ≡ true)
      streams = operand_streams n r operands

      all_placed : all_among order (needed_now (decoded r)) ≡ (flag row.a r.a && (flag row.b r.b && flag row.c r.c))
      all_placed =
          ap (all_among order) (needed_is r shape)
          ∙ all_append (reading row.a r.a) _
          ∙ ap (λ (t : Bool). all_among order (needed_in (reading row.a r.a)) && t) (all_append (reading row.b r.b) _)
          ∙ rw (operand_is row.a r.a streams.0, operand_is row.b r.b streams.1, operand_is row.c r.c streams.2)

      pub ready_is : (needs : List Needs) (i : ℕ) → i < 64 → needs_at needs i ≡ needs_in r → ready_by flags needs i ≡ (not (is_among order i) && all_among order (needed_now (decoded r)))
      unfolding ready_by needs_in
      ready_is needs i l e =
          rw (e, flagging.says i l, all_placed) (regroup (not (is_among order i)) (flag row.a r.a) (flag row.b r.b) (flag row.c r.c))
        where
          regroup : (p q s t : Bool) → (((p && q) && s) && t) ≡ (p && (q && (s && t)))
          regroup true true s t = refl
          regroup true false s t = refl
          regroup false q s t = refl
