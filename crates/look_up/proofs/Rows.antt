-- The table at the start: a stream set instant after instant, the history stream after stream; what it holds is what the values of the history keep.
-- Assumes nothing.
use mathlib.Core.Path.{◌≡◌, refl, sym, ◌∙◌, ap}
use mathlib.Core.Logic.{◌⊎◌, inl, inr}
use mathlib.Core.Bool.{Bool, true, false, true≢false}
use mathlib.Core.List.{List}
use Prim.Native.Nat.{ℕ, suc, ◌+◌, ◌*◌, ◌<◌, ◌≤◌}
use native.Mathlib.Nat.{eq-or-lt_of_le, le_of_suc-le-suc}
use native.Mathlib.Omega.{arith}
use borrow.Author.Tests.{eqb-true, eqb-false}
use lib.Dec.{eqb}
use lib.IntN.{ℤ}
use lib.ListN.{length, get_or, set, replicate, length-set, length-replicate}
use lib.Seq.{get_or-set_same, get_or-set_other}
use Rattle.std.specs.Prelude.{None, Option, Some}
use Rattle.integers.specs.Range.{inside}
use Rattle.streams.proofs.Filled.{same_everywhere}
use Rattle.answers.specs.Answer.{accepted, is_accepted}
use Rattle.answers.specs.declared.NodeValues.{NodeValues}
use Rattle.node.specs.declared.equation.Equation.{Equation}
use Rattle.node.specs.declared.equation.Equation.TheVariants.{Input}
use Rattle.node.specs.Equations.{equation_at}
use Rattle.node.specs.Inputs.{is_input_among, is_input, inputs_below, input_count}
use Rattle.node.specs.Layout.{streams_of}
use Rattle.node.specs.Verdict.{verdict_of}
use Rattle.node.proofs.FileRules.{Sizes}
use Rattle.node.proofs.InputCounts.{equation_input, input_equation}
use Rattle.node.proofs.Notes.{accepted_sizes}
use Rattle.node.proofs.Outcomes.{is_accepted_is}
use Rattle.streams.specs.Meaning.{meaning}
use Rattle.streams.specs.Nodes.{node_of}
use Rattle.streams.specs.Solutions.{is_first, before}
use Rattle.streams.specs.Typing.{given}
use Rattle.streams.specs.Values.{values_in}
use Rattle.histories.specs.History.{inputs_at, endless, history_values}
use Rattle.histories.proofs.Parts.{below_few}
use Rattle.histories.proofs.Histories.{starts_with, values_rows}
use Rattle.look_up.specs.Looking.{Obeys, Table, StreamSet, HoldsHistory}
use Rattle.look_up.proofs.Combining.{given_same}
use Rattle.look_up.proofs.Tables.{start}

-- ---- a stream

module _ (inputs : List ℤ) (m j s : ℕ) where
  pub stream_none : (before : List (Option ℤ)) → StreamSet inputs m j s 0 before before
  stream_none before = record { size = refl; own = λ t l. absurd (omega (arith, l)); ranged = λ t l. absurd (omega (arith, l)); others = λ t r l n. refl }

  pub stream_more : (k : ℕ) (before after : List (Option ℤ)) → 64 * k + s < length before → s < 64 → inside (values_in (inputs_at m inputs k) j) ≡ true → StreamSet inputs m j s k before after → StreamSet inputs m j s (suc k) before (set after (64 * k + s) (Some (values_in (inputs_at m inputs k) j)))
  stream_more k before after fits few h is =
      record {
        size = length-set after (64 * k + s) _ ∙ is.size;
        own = λ t l. go t (eq-or-lt_of_le (le_of_suc-le-suc l));
        ranged = λ t l. in_range t (eq-or-lt_of_le (le_of_suc-le-suc l));
        others = λ t r l n. get_or-set_other after (64 * k + s) (64 * t + r) _ None (λ (e : 64 * t + r ≡ 64 * k + s). n (omega arith)) ∙ is.others t r l n;
      }
    where
      go : (t : ℕ) → (t ≡ k) ⊎ (t < k) → get_or (set after (64 * k + s) (Some (values_in (inputs_at m inputs k) j))) (64 * t + s) None ≡ Some (values_in (inputs_at m inputs t) j)
      go t (inl e) = rw e (get_or-set_same after (64 * k + s) _ None (omega (arith, fits, is.size)))
      go t (inr l) = get_or-set_other after (64 * k + s) (64 * t + s) _ None (omega (arith, l)) ∙ is.own t l

      in_range : (t : ℕ) → (t ≡ k) ⊎ (t < k) → inside (values_in (inputs_at m inputs t) j) ≡ true
      in_range t (inl e) = rw e h
      in_range t (inr l) = is.ranged t l

-- ---- the history

module _ (file : List ℕ) (count : ℕ) (inputs : List ℤ) where
  pub history_none : HoldsHistory file count inputs 0 (replicate 1024 None)
  history_none =
      record {
        size = length-replicate {A = Option ℤ} 1024 None;
        entries = λ t s l m. absurd (omega (arith, m));
        ranged = λ t s l m. absurd (omega (arith, m));
        alone = λ t s l x e. let no : ◌≡◌ {A = Option ℤ} None (Some x) = sym (same_everywhere {A = Option ℤ} 1024 (64 * t + s) None) ∙ e in cc;
      }

  module _ (k : ℕ) (before : List (Option ℤ)) (holds : HoldsHistory file count inputs k before) where
    -- a stream that is no input
    pub history_same : is_input file k ≡ false → HoldsHistory file count inputs (suc k) before
    history_same not-one =
        record {
          size = holds.size;
          entries = λ t s l m is. go t s l is (eq-or-lt_of_le (le_of_suc-le-suc m));
          ranged = λ t s l m is. in_range t s l is (eq-or-lt_of_le (le_of_suc-le-suc m));
          alone = holds.alone;
        }
      where
        none : (s : ℕ) → equation_at file s ≡ Input → s ≡ k → ⊥
        none s is e = true≢false (sym (equation_input (equation_at file k) (rw e at is)) ∙ not-one)

        go : (t s : ℕ) → t < count → equation_at file s ≡ Input → (s ≡ k) ⊎ (s < k) → get_or before (64 * t + s) None ≡ Some (given (node_of file) (inputs_at (input_count file) inputs t) s)
        go t s l is (inl e) = absurd (none s is e)
        go t s l is (inr m) = holds.entries t s l m is

        in_range : (t s : ℕ) → t < count → equation_at file s ≡ Input → (s ≡ k) ⊎ (s < k) → inside (given (node_of file) (inputs_at (input_count file) inputs t) s) ≡ true
        in_range t s l is (inl e) = absurd (none s is e)
        in_range t s l is (inr m) = holds.ranged t s l m is

    -- an input
    pub history_more : (m j : ℕ) (after : List (Option ℤ)) → k < 64 → is_input file k ≡ true → m ≡ input_count file → j ≡ inputs_below file k → StreamSet inputs m j k count before after → HoldsHistory file count inputs (suc k) after
    history_more m j after few one count_is number set =
        record {
          size = set.size ∙ holds.size;
          entries = λ t s l b is. go t s l is (eq-or-lt_of_le (le_of_suc-le-suc b));
          ranged = λ t s l b is. in_range t s l is (eq-or-lt_of_le (le_of_suc-le-suc b));
          alone = λ t s l x e. only t s l x e (eqb s k) refl;
        }
      where
        go : (t s : ℕ) → t < count → equation_at file s ≡ Input → (s ≡ k) ⊎ (s < k) → get_or after (64 * t + s) None ≡ Some (given (node_of file) (inputs_at (input_count file) inputs t) s)
        go t s l is (inl e) = rw (e, ← count_is, ← number) (set.own t l)
        go t s l is (inr b) = set.others t s (omega arith) (omega arith) ∙ holds.entries t s l b is

        in_range : (t s : ℕ) → t < count → equation_at file s ≡ Input → (s ≡ k) ⊎ (s < k) → inside (given (node_of file) (inputs_at (input_count file) inputs t) s) ≡ true
        in_range t s l is (inl e) = rw (e, ← count_is, ← number) (set.ranged t l)
        in_range t s l is (inr b) = holds.ranged t s l b is

        only : (t s : ℕ) → s < 64 → (x : ℤ) → get_or after (64 * t + s) None ≡ Some x → (b : Bool) → eqb s k ≡ b → equation_at file s ≡ Input
        only t s l x e true p = rw (eqb-true s k p) (input_equation (equation_at file k) one)
        only t s l x e false p = holds.alone t s l x (sym (set.others t s l (eqb-false s k p)) ∙ e)

-- ---- one stream more

-- what one stream more asks: stream s of an accepted file's n, and j inputs below it
pub record Adding (file : List ℕ) (n s count : ℕ) (inputs : List ℤ) (m j : ℕ) : Type 0 where
  pub accepts : is_accepted (verdict_of file) ≡ true
  pub streams : n ≡ streams_of file
  pub below : s < n
  pub number : j ≡ inputs_below file s
  pub count_is : m ≡ input_count file
  pub counted : length inputs ≡ count * m
  pub short : count ≤ 16

module _ (file : List ℕ) (n s count : ℕ) (inputs : List ℤ) (m j : ℕ) (adding : Adding file n s count inputs m j) where
  sizes : Sizes file
  sizes = accepted_sizes file (is_accepted_is file adding.accepts)

  pub adding_few : (s < 64) × (j < 64)
  adding_few =
      let b = below_few file s in
      let few = sizes.few in
      (omega (arith, few, adding.below, adding.streams), omega (arith, few, b, adding.below, adding.streams, adding.number))

  pub input_is : is_input_among file n s ≡ is_input file s
  input_is = ap (λ (k : ℕ). is_input_among file k s) (adding.streams ∙ sym sizes.records)

  module _ (before : List (Option ℤ)) (holds : HoldsHistory file count inputs s before) where
    pub added : (after : List (Option ℤ)) → is_input file s ≡ true → StreamSet inputs m j s count before after → (j + 1 ≡ inputs_below file (suc s)) × HoldsHistory file count inputs (suc s) after
    unfolding inputs_below
    added after is set =
        let next : j + 1 ≡ suc j = omega arith in
        (rw is (next ∙ ap suc adding.number), history_more file count inputs s before holds m j after adding_few.0 is adding.count_is adding.number set)

    pub passed_over : is_input file s ≡ false → (j ≡ inputs_below file (suc s)) × HoldsHistory file count inputs (suc s) before
    unfolding inputs_below
    passed_over is = (rw is adding.number, history_same file count inputs s before holds is)

-- ---- the values of a history

module _ (file : List ℕ) {node : NodeValues} (e : verdict_of file ≡ accepted node) (count : ℕ) (inputs : List ℤ) where
  -- they keep the equations ..
  pub values_obey : Obeys (equation_at file) (streams_of file) (history_values file count inputs)
  values_obey t s l =
      let v = history_values file count inputs in
      let rows = values_rows file e count inputs t s l in
      let g = given (node_of file) (endless (input_count file) count inputs t) s in
      rows
      ∙ given_same (equation_at file s) g (v t s) (is_first t) (before v t) (v t)
      (λ i. sym (rows ∙ ap (λ (q : Equation). meaning q g (is_first t) (before v t) (v t)) i))

  -- .. and their inputs are the history's
  pub history_table : (table : List (Option ℤ)) → HoldsHistory file count inputs (streams_of file) table → Table (equation_at file) (streams_of file) count (history_values file count inputs) table
  history_table table holds =
      start (equation_at file) (streams_of file) count (history_values file count inputs) table holds.size
      (λ t s l m i. holds.entries t s l m i ∙ ap Some (given_is t s l m i))
      (λ t s l m i. ap inside (sym (given_is t s l m i)) ∙ holds.ranged t s l m i)
      (λ t s m. holds.alone t s (omega (arith, m, (accepted_sizes file e).few)))
    where
      given_is : (t s : ℕ) → t < count → s < streams_of file → equation_at file s ≡ Input → given (node_of file) (inputs_at (input_count file) inputs t) s ≡ history_values file count inputs t s
      given_is t s l m i =
          let v = history_values file count inputs in
          ap (λ (x : List ℤ). given (node_of file) x s) (sym (starts_with file e count inputs t l))
          ∙ sym (values_rows file e count inputs t s m ∙ ap (λ (q : Equation). meaning q (given (node_of file) (endless (input_count file) count inputs t) s) (is_first t) (before v t) (v t)) i)
