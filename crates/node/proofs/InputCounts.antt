-- The inputs of a node, counted one record more at a time.
-- Assumes nothing.
use mathlib.Core.Path.{◌≡◌, sym, ◌∙◌}
use mathlib.Core.Bool.{Bool, true, false, cond, and-true}
use mathlib.Core.List.{List}
use Prim.Native.Nat.{ℕ, zero, suc, ◌+◌, ◌<◌, ◌≤◌, ◌^◌, zero-le}
use native.Mathlib.Numerals.{add-one}
use native.Mathlib.Omega.{arith}
use borrow.Author.Tests.{eqb-true, lt-ltb}
use lib.ListN.{length}
use Rattle.node.specs.declared.equation.StreamType.TheVariants.{Bool as BoolType}
use Rattle.node.specs.declared.equation.Equation.{Equation}
use Rattle.node.specs.declared.equation.Equation.TheVariants.{Input}
use Rattle.node.specs.Equations.{fields_of, decoded}
use Rattle.node.specs.Layout.{records_of}
use Rattle.node.specs.Inputs.{is_input_equation, is_input, with_record_among, inputs_below}
use Rattle.node.proofs.Encoding.{decoded_encoded}
use Rattle.node.proofs.Records.{records_few, is_input_among_is}

module _ (s : List ℕ) where
  pub inputs_le : (i : ℕ) → inputs_below s i ≤ i
  unfolding inputs_below
  inputs_le zero = zero-le
  inputs_le (suc i) = go (is_input s i) (inputs_le i)
    where
      go : (b : Bool) → inputs_below s i ≤ i → cond b (suc (inputs_below s i)) (inputs_below s i) ≤ suc i
      go true l = omega arith
      go false l = omega arith

  pub inputs_more : (n i inputs : ℕ) → n ≡ records_of s → inputs < 2 ^ 63 → inputs ≡ inputs_below s i → with_record_among s n i inputs ≡ inputs_below s (i + 1)
  unfolding inputs_below
  inputs_more n i inputs e l f = rw (is_input_among_is s n e i, lt-ltb inputs (2 ^ 63) l, and-true (is_input s i), add-one, f)

  -- far fewer than a number can count, while a record is left
  pub inputs_few : (n i inputs : ℕ) → n ≡ records_of s → i < n → inputs ≡ inputs_below s i → length s < 2 ^ 64 → inputs < 2 ^ 63
  inputs_few n i inputs e l f h = omega (arith, records_few s i (rw e at l) h, inputs_le i)

-- an equation is an input where it is `Input`, and nowhere else
pub input_equation : (e : Equation) → is_input_equation e ≡ true → e ≡ Input
unfolding decoded
input_equation e t = sym (decoded_encoded BoolType e) ∙ rw (eqb-true (fields_of e).op 0 t)

pub equation_input : (e : Equation) → e ≡ Input → is_input_equation e ≡ true
equation_input e t = rw t
