-- Half of version 2 is unsound: it accepts a certificate of a property that fails at instant 1.
-- Assumes nothing.
use mathlib.Core.Path.{◌≡◌, refl, sym, ◌∙◌, ap}
use mathlib.Core.Bool.{false≢true}
use mathlib.Core.List.{[]}
use Prim.Native.Nat.{ℕ, zero, suc, ◌<◌}
use native.Mathlib.Nat.{not-suc-le-zero}
use native.Mathlib.Omega.{arith}
use lib.IntN.{pos}
use Rattle.fields.specs.Fields.{twos_complement}
use Rattle.node.specs.declared.equation.Equation.TheVariants.{Input}
use Rattle.node.specs.Equations.{type_among, decoded, type_at, equation_at}
use Rattle.node.specs.Layout.{records_of, record_among}
use Rattle.node.specs.Written.{record_bytes, trailer_bytes, node_file}
use Rattle.node.specs.Inputs.{inputs_below, is_input_equation}
use Rattle.node.proofs.Outcomes.{keeps_accepted}
use Rattle.streams.specs.Nodes.{node_of}
use Rattle.streams.specs.Solutions.{Streams, Solution}
use Rattle.streams.specs.Typing.{Inputs, TypedInputs, Fits, given}
use Rattle.streams.specs.Values.{truth, equals}
use Rattle.streams.proofs.AcceptedNodes.{one_solution}
use Rattle.rules.specs.Theorems.{PropertyHolds}
use Rattle.rules.proofs.Outcomes.{accepted_keeps}
use Rattle.set_up.specs.SetUp.{carried, forged_set_up, halved, forged_certificate, HalvedUnsound}
use Rattle.set_up.proofs.Accepted.{halved_accepts}

-- in a solution stream 3 is 5 at instant 1, as stream 2 at instant 0
fails_at_1 : (inputs : Inputs) (values : Streams) → Solution (node_of forged_set_up) inputs values → values 1 4 ≡ pos 0
unfolding carried node_file record_bytes trailer_bytes records_of record_among twos_complement type_among decoded
fails_at_1 inputs values solves =
    let first : values 0 2 ≡ pos 5 = solves.holds 0 2 (omega arith) ∙ solves.holds 0 0 (omega arith) in
    let carries : values 1 3 ≡ pos 5 = solves.holds 1 3 (omega arith) ∙ first in
    let nothing : values 1 1 ≡ pos 0 = solves.holds 1 1 (omega arith) in
    solves.holds 1 4 (omega arith) ∙ rw (carries, nothing)

no_inputs : TypedInputs (node_of forged_set_up) (λ t. [])
unfolding carried node_file record_bytes trailer_bytes records_of record_among twos_complement type_among decoded inputs_below
no_inputs t = record { count = refl; fits = fits }
  where
    fits : (s : ℕ) → s < 5 → equation_at forged_set_up s ≡ Input → Fits (type_at forged_set_up s) (given (node_of forged_set_up) [] s)
    fits zero l e = tt
    fits (suc zero) l e = tt
    fits (suc (suc zero)) l e = tt
    fits (suc (suc (suc zero))) l e = tt
    fits (suc (suc (suc (suc zero)))) l e = absurd (false≢true (ap is_input_equation e))
    fits (suc (suc (suc (suc (suc s))))) l e = absurd (not-suc-le-zero {n = s} (omega (arith, l)))

fails : PropertyHolds forged_set_up → ⊥
unfolding carried node_file record_bytes trailer_bytes truth equals
fails holds =
    let begins = keeps_accepted forged_set_up (accepted_keeps halved forged_set_up forged_certificate halved_accepts).node_rules in
    let solved = (one_solution forged_set_up begins).exists (λ t. []) no_inputs in
    let at_1 : solved.0 1 4 ≡ pos 1 = holds (λ t. []) no_inputs solved.0 solved.1 1 in
    absurd (false≢true (ap truth (sym (fails_at_1 (λ t. []) solved.0 solved.1) ∙ at_1)))

pub halved_unsound : HalvedUnsound
halved_unsound =
    record {
      node = forged_set_up;
      cert = forged_certificate;
      values = record { depth = 1; base = 7; step = 13 };
      accepts = halved_accepts;
      fails = fails;
    }
