-- There are endless typed inputs that start with the answered ones and go on with any typed ones, and a solution on them.
-- Assumes nothing.
use mathlib.Core.Path.{◌≡◌, refl, sym, ap, subst}
use mathlib.Core.Bool.{Bool, true, false}
use mathlib.Core.List.{List, [], ◌∷◌}
use Prim.Native.Nat.{ℕ, zero, suc, ◌<◌, ◌≤◌}
use native.Mathlib.Nat.{not-suc-le-zero, le_of_suc-le-suc, le_refl}
use borrow.Author.Tests.{ltb-true, ltb-false}
use lib.Dec.{ltb}
use lib.IntN.{ℤ, pos}
use lib.ListN.{length, get_or, replicate, length-replicate, get_or-eq_default}
use Rattle.answers.specs.Answer.{accepted}
use Rattle.answers.specs.declared.NodeValues.{NodeValues}
use Rattle.node.specs.declared.equation.StreamType.{StreamType}
use Rattle.node.specs.declared.equation.StreamType.TheVariants.{Bool as BoolType, Int as IntType}
use Rattle.node.specs.Equations.{type_at}
use Rattle.node.specs.Inputs.{inputs_below, input_count}
use Rattle.node.specs.Verdict.{verdict_of}
use Rattle.streams.specs.Nodes.{node_of}
use Rattle.streams.specs.Solutions.{Streams}
use Rattle.streams.specs.Typing.{Fits, fits_test, Inputs, TypedInstant, TypedInputs}
use Rattle.streams.proofs.AcceptedNodes.{one_solution}
use Rattle.streams.proofs.Filled.{same_everywhere}
use Rattle.streams.proofs.Numbers.{fits_test_is}
use Rattle.session.specs.Lists.{Answered, call}
use Rattle.session.specs.Theorems.{Solves}

-- within a list the default does not matter
get_d_within : {A : Type 0} (l : List A) (n : ℕ) (d e : A) → n < length l → get_or l n d ≡ get_or l n e
get_d_within [] n d e l = absurd (not-suc-le-zero l)
get_d_within (x ∷ xs) zero d e l = refl
get_d_within (x ∷ xs) (suc n) d e l = get_d_within xs n d e (le_of_suc-le-suc l)

-- 0 fits every type
module _ (file : List ℕ) where
  abbrev pub noughts : List ℤ
  noughts = replicate (input_count file) (pos 0)

  pub noughts_typed : TypedInstant (node_of file) noughts
  noughts_typed =
      record {
        count = length-replicate (input_count file) (pos 0);
        fits = λ i l is. subst (Fits (type_at file i)) (sym (same_everywhere (input_count file) (inputs_below file i) (pos 0))) ((fits_test_is (type_at file i) (pos 0)).0 (nought_fits (type_at file i)));
      }
    where
      nought_fits : (ty : StreamType) → fits_test ty (pos 0) ≡ true
      nought_fits BoolType = refl
      nought_fits IntType = refl

module _ (file : List ℕ) {node : NodeValues} (e : verdict_of file ≡ accepted node) (done : List Answered) (typed : (t : ℕ) → t < length done → TypedInstant (node_of file) (call done t).inputs) where
  module _ (next : List ℤ) (next_typed : TypedInstant (node_of file) next) where
    -- the answered inputs, then the next for ever
    abbrev continued : Inputs
    continued t = (get_or done t (record { inputs = next; values = [] })).inputs

    continued_starts : (t : ℕ) → t < length done → continued t ≡ (call done t).inputs
    continued_starts t l = ap (λ (a : Answered). a.inputs) (get_d_within done t (record { inputs = next; values = [] }) (record { inputs = []; values = [] }) l)

    continued_next : (t : ℕ) → length done ≤ t → continued t ≡ next
    continued_next t l = ap (λ (a : Answered). a.inputs) (get_or-eq_default done (record { inputs = next; values = [] }) l)

    continued_typed : TypedInputs (node_of file) continued
    continued_typed t = by (ltb t (length done)) refl
      where
        by : (b : Bool) → ltb t (length done) ≡ b → TypedInstant (node_of file) (continued t)
        by true f =
            let l = ltb-true t (length done) f in
            subst (TypedInstant (node_of file)) (sym (continued_starts t l)) (typed t l)
        by false f = subst (TypedInstant (node_of file)) (sym (continued_next t (ltb-false t (length done) f))) next_typed

    pub solved_on : (v : Streams) × ((of_v : Solves file done v) × (of_v.inputs (length done) ≡ next))
    solved_on =
        let found = (one_solution file e).exists continued continued_typed in (
          found.0,
          (
            record { inputs = continued; typed = continued_typed; starts = continued_starts; solves = found.1 },
            continued_next (length done) (le_refl (length done)),
          ),
        )

  pub solved : (v : Streams) × Solves file done v
  solved = let found = solved_on (noughts file) (noughts_typed file) in (found.0, found.1.0)
