-- What answered calls show, one call more at a time.
-- Assumes nothing.
use mathlib.Core.Path.{◌≡◌, sym, ◌∙◌, ap, subst}
use mathlib.Core.Logic.{◌⊎◌, inl, inr}
use mathlib.Core.Bool.{true}
use mathlib.Core.List.{List, [], ◌∷◌, ◌++◌}
use Prim.Native.Nat.{ℕ, suc, ◌<◌, ◌≤◌}
use native.Mathlib.Nat.{not-suc-le-zero, eq-or-lt_of_le, le_of_suc-le-suc}
use native.Mathlib.Omega.{arith}
use lib.ListN.{length, length-append, get_or-append}
use lib.Seq.{get_or-append_seam}
use Rattle.integers.specs.Range.{inside}
use Rattle.answers.specs.Answer.{accepted}
use Rattle.answers.specs.declared.NodeValues.{NodeValues}
use Rattle.node.specs.Layout.{streams_of}
use Rattle.node.specs.Verdict.{verdict_of}
use Rattle.streams.specs.Nodes.{node_of}
use Rattle.streams.specs.Solutions.{Streams, Solution}
use Rattle.streams.specs.Typing.{Inputs, TypedInstant, TypedInputs}
use Rattle.streams.specs.Values.{values_in}
use Rattle.session.specs.Lists.{Answered, call}
use Rattle.session.specs.Theorems.{StartsWith, Shows}
use Rattle.session.proofs.Judging.{solved}

pub shows_none : (file : List ℕ) {node : NodeValues} → verdict_of file ≡ accepted node → Shows file []
shows_none file e =
    record {
      typed = λ t l. absurd (not-suc-le-zero l);
      sized = λ t l. absurd (not-suc-le-zero l);
      ranged = λ t l. absurd (not-suc-le-zero l);
      solved = solved file e [] (λ t l. absurd (not-suc-le-zero l));
      shown = λ t l. absurd (not-suc-le-zero l);
    }

module _ (done : List Answered) (a : Answered) where
  -- the answered calls with one more
  abbrev more : List Answered
  more = done ++ (a ∷ [])

  pub more_length : length more ≡ suc (length done)
  more_length = length-append done (a ∷ []) ∙ omega arith

  call_before : (t : ℕ) → t < length done → call more t ≡ call done t
  call_before t l = get_or-append done (a ∷ []) _ t l

  pub call_own : call more (length done) ≡ a
  call_own = get_or-append_seam done a [] _

  -- what holds of the earlier calls and of this one
  by_call : (P : ℕ → Answered → Type 0) → ((t : ℕ) → t < length done → P t (call done t)) → P (length done) a → (t : ℕ) → t < length more → P t (call more t)
  by_call P earlier own t l = go (eq-or-lt_of_le (le_of_suc-le-suc (rw more_length at l)))
    where
      go : (t ≡ length done) ⊎ (t < length done) → P t (call more t)
      go (inl p) = subst (λ (k : ℕ). P k (call more k)) (sym p) (subst (P (length done)) (sym call_own) own)
      go (inr m) = subst (P t) (sym (call_before t m)) (earlier t m)

  pub starts_before : (t : ℕ) → t ≤ length done → (u : Inputs) → StartsWith more t u → StartsWith done t u
  starts_before t l u starts j m = starts j m ∙ ap (λ (x : Answered). x.inputs) (call_before j (omega arith))

  module _ (file : List ℕ) {node : NodeValues} (e : verdict_of file ≡ accepted node) where
    -- the values of answered call t are those of every solution on inputs that start with those of `calls` up to it
    abbrev ShownAt : (calls : List Answered) → ℕ → Answered → Type 0
    ShownAt calls t x =
        (u : Inputs) → TypedInputs (node_of file) u → StartsWith calls (suc t) u
        → (v : Streams) → Solution (node_of file) u v
        → (i : ℕ) → i < streams_of file → values_in x.values i ≡ v t i

    pub shows_more : Shows file done → TypedInstant (node_of file) a.inputs → length a.values ≡ streams_of file → ((i : ℕ) → i < streams_of file → inside (values_in a.values i) ≡ true) → ShownAt more (length done) a → Shows file more
    shows_more shows typed sized ranged shown =
        let all_Typed = by_call (λ t x. TypedInstant (node_of file) x.inputs) shows.typed typed in
        record {
          typed = all_Typed;
          sized = by_call (λ t x. length x.values ≡ streams_of file) shows.sized sized;
          ranged = by_call (λ t x. (i : ℕ) → i < streams_of file → inside (values_in x.values i) ≡ true) shows.ranged ranged;
          solved = solved file e more all_Typed;
          shown = by_call (ShownAt more) (λ t l u of_u starts. shows.shown t l u of_u (starts_before (suc t) l u starts)) shown;
        }
