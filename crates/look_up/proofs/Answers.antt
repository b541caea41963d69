-- The answer to a look-up from what the recursion says, test by test.
-- Assumes nothing.
use mathlib.Core.Path.{◌≡◌, refl, sym, ◌∙◌, ap}
use mathlib.Core.Bool.{Bool, true, false, true≢false}
use mathlib.Core.List.{List}
use Prim.Native.Nat.{ℕ, ◌*◌, ◌<◌, ◌≤◌}
use native.Mathlib.Omega.{arith}
use borrow.Author.Tests.{ltb-true, leb-true, lt-ltb, le-leb}
use lib.Dec.{leb, ltb}
use lib.IntN.{ℤ}
use Rattle.answers.specs.declared.Place.TheVariants.{File, Record as AtRecord}
use Rattle.answers.specs.Answer.{Answer, accepted, refused}
use Rattle.answers.specs.declared.NodeValues.{NodeValues}
use Rattle.answers.specs.Checks.{check}
use Rattle.answers.proofs.Tests.{both_true}
use Rattle.node.specs.Equations.{equation_at}
use Rattle.node.specs.Inputs.{input_count}
use Rattle.node.specs.Layout.{streams_of}
use Rattle.node.specs.Verdict.{verdict_of}
use Rattle.streams.specs.Solutions.{Streams}
use Rattle.histories.specs.History.{count_ok, bad_input, history_values}
use Rattle.look_up.specs.Visited.{VisitedInside, VisitedOutside, inside_in}
use Rattle.look_up.specs.LookUp.{is_in, value_answer, history_answer, look_up_of}
use Rattle.look_up.specs.Looking.{LookedUp, HoldsHistory, ToldOf}
use Rattle.look_up.proofs.Rows.{values_obey, history_table}
use Rattle.look_up.proofs.Within.{inside_in_is, all_inside_in}
use Rattle.std.specs.Option.{ok_or}
use Rattle.std.specs.Prelude.{None, Option, Some}

-- ---- 65

pub record In (n count stream instant : ℕ) : Type 0 where
  pub short : count ≤ 16
  pub stream_in : stream < n
  pub instant_in : instant < count

module _ (n count stream instant : ℕ) where
  pub in_history : is_in n count stream instant ≡ true → In n count stream instant
  unfolding is_in
  in_history e =
      let a = both_true (leb count 16) _ e in
      let b = both_true (ltb stream n) _ a.1 in
      record { short = leb-true _ _ a.0; stream_in = ltb-true _ _ b.0; instant_in = ltb-true _ _ b.1 }

  pub is_in_is : In n count stream instant → is_in n count stream instant ≡ true
  unfolding is_in
  is_in_is i = rw (le-leb _ _ i.short, lt-ltb _ _ i.stream_in, lt-ltb _ _ i.instant_in) refl

  -- where it passes, and n is the file's count
  pub passed : {k : ℕ} {a rest : Answer ℤ} → n ≡ k → is_in n count stream instant ≡ true → a ≡ rest → a ≡ check (is_in k count stream instant) 65 File rest
  passed size e p = rw (← size, e) p

-- ---- 34 or the value

module _ (file : List ℕ) {node : NodeValues} (e : verdict_of file ≡ accepted node) (v : Streams) (stream instant : ℕ) where
  pub value_is : VisitedInside (equation_at file) v instant stream → value_answer file v stream instant ≡ accepted (v instant stream)
  unfolding value_answer
  value_is all = rw (inside_in_is (equation_at file) v (16 * 64) instant stream all) refl

  pub outside_is : instant < 16 → stream < streams_of file → VisitedOutside (equation_at file) v instant stream → value_answer file v stream instant ≡ refused 34 (AtRecord stream)
  unfolding value_answer
  outside_is early below some = go (inside_in (equation_at file) v (16 * 64) instant stream) refl
    where
      go : (b : Bool) → inside_in (equation_at file) v (16 * 64) instant stream ≡ b → check b 34 (AtRecord stream) (accepted (v instant stream)) ≡ refused 34 (AtRecord stream)
      go true h = absurd (true≢false (sym (all_inside_in file e v instant stream early below h some.instant some.stream some.visited) ∙ some.leaves))
      go false h = refl

-- ---- what the recursion says of a history

module _ (file : List ℕ) {node : NodeValues} (e : verdict_of file ≡ accepted node) (count : ℕ) (inputs : List ℤ) (stream instant : ℕ) where
  pub told_by : In (streams_of file) count stream instant → {table table' : List (Option ℤ)} {r : Option ℤ} → HoldsHistory file count inputs (streams_of file) table → LookedUp file instant stream table table' r → ToldOf file count inputs stream instant r
  told_by i {table} holds l =
      record { says = (l.shows (history_values file count inputs) count (values_obey file e count inputs) i.instant_in i.short (history_table file e count inputs table holds)).1 }

  pub value_told : (r : Option ℤ) (x : ℤ) → r ≡ Some x → ToldOf file count inputs stream instant r → accepted x ≡ value_answer file (history_values file count inputs) stream instant
  value_told (Some y) x p t = let z : y ≡ x = cc in ap accepted (sym z ∙ t.says.0) ∙ sym (value_is file e (history_values file count inputs) stream instant t.says.1)
  value_told None x p t = absurd (let z : ◌≡◌ {A = ℕ} 0 1 = cc in omega arith)

  pub answer_told : In (streams_of file) count stream instant → (r : Option ℤ) → ToldOf file count inputs stream instant r → ok_or r (record { number = 34; place = AtRecord stream }) ≡ value_answer file (history_values file count inputs) stream instant
  answer_told i (Some y) t = value_told (Some y) y refl t
  answer_told i None t = sym (outside_is file e (history_values file count inputs) stream instant (omega (arith, i.short, i.instant_in)) i.stream_in t.says)

-- ---- 31 and 33

module _ (file : List ℕ) (count : ℕ) (inputs : List ℤ) (stream instant : ℕ) where
  pub well_typed : count_ok count (input_count file) inputs ≡ true → bad_input file inputs count ≡ None → history_answer file count inputs stream instant ≡ check (is_in (streams_of file) count stream instant) 65 File (value_answer file (history_values file count inputs) stream instant)
  unfolding history_answer
  well_typed p q = rw (p, q) refl

  -- .. of an accepted file
  pub rest_is : {node : NodeValues} → verdict_of file ≡ accepted node → count_ok count (input_count file) inputs ≡ true → bad_input file inputs count ≡ None → look_up_of file count inputs stream instant ≡ check (is_in (streams_of file) count stream instant) 65 File (value_answer file (history_values file count inputs) stream instant)
  unfolding look_up_of
  rest_is e p q = rw e (well_typed p q)
