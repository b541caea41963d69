-- An accepted file without its note is the same node.
-- Assumes nothing.
use mathlib.Core.Path.{◌≡◌, refl, sym, ◌∙◌, ap, ap₂, fun_ext}
use mathlib.Core.Bool.{Bool, not, ◌||◌}
use mathlib.Core.List.{List}
use Prim.Native.Nat.{ℕ, zero, suc}
use lib.IntN.{ℤ}
use Rattle.answers.specs.Answer.{accepted}
use Rattle.answers.specs.declared.NodeValues.{NodeValues}
use Rattle.node.specs.declared.equation.StreamType.{StreamType}
use Rattle.node.specs.declared.equation.Equation.{Equation}
use Rattle.node.specs.declared.layout.Record.{Record}
use Rattle.node.specs.Equations.{type_of, type_among, type_at, decoded, equation_at}
use Rattle.node.specs.Inputs.{is_input_equation, is_input, inputs_below, input_count}
use Rattle.node.specs.Layout.{streams_of, property_of, records_of}
use Rattle.node.specs.Note.{without_note}
use Rattle.node.specs.Verdict.{verdict_of}
use Rattle.node.proofs.Notes.{accepted_sizes}
use Rattle.node.proofs.Outcomes.{accepted_values}
use Rattle.node.proofs.WithoutNote.{without_note_accepted, without_note_record}
use Rattle.streams.specs.Instant.{input_fits}
use Rattle.streams.specs.Nodes.{Node, node_of}
use Rattle.streams.specs.Typing.{fits_test, given}

abbrev values_of : List ℕ → NodeValues
values_of s = record { streams = streams_of s; property = property_of s }

abbrev made : (streams property : ℕ) → (ℕ → StreamType) → (ℕ → Equation) → (inputs : ℕ) → (ℕ → ℕ) → Node
made n p k f i x = record { streams = n; property = p; types = k; equations = f; inputs = i; input_number = x }

module _ (file : List ℕ) {node : NodeValues} (e : verdict_of file ≡ accepted node) where
  abbrev rest : List ℕ
  rest = without_note file

  values_same : values_of rest ≡ values_of file
  values_same = sym (accepted_values rest (without_note_accepted file e)) ∙ accepted_values file e

  streams_same : streams_of rest ≡ streams_of file
  streams_same = ap (λ (v : NodeValues). v.streams) values_same

  property_same : property_of rest ≡ property_of file
  property_same = ap (λ (v : NodeValues). v.property) values_same

  is_input_same : (i : ℕ) → is_input rest i ≡ is_input file i
  is_input_same i = ap (λ (r : Record). is_input_equation (decoded r)) (without_note_record file e i)

  types_same : type_at rest ≡ type_at file
  unfolding type_among
  types_same = fun_ext (λ i. ap (λ (r : Record). type_of r.ty) (without_note_record file e i))

  equations_same : equation_at rest ≡ equation_at file
  equations_same = fun_ext (λ i. ap decoded (without_note_record file e i))

  inputs_below_same : (i : ℕ) → inputs_below rest i ≡ inputs_below file i
  unfolding inputs_below
  inputs_below_same zero = refl
  inputs_below_same (suc i) = rw (is_input_same i, inputs_below_same i)

  records_same : records_of rest ≡ records_of file
  records_same =
      (accepted_sizes rest (without_note_accepted file e)).records
      ∙ streams_same
      ∙ sym (accepted_sizes file e).records

  inputs_same : input_count rest ≡ input_count file
  inputs_same = inputs_below_same (records_of rest) ∙ ap (inputs_below file) records_same

  pub node_same : node_of rest ≡ node_of file
  node_same =
      ap₂ (λ (n p : ℕ). made n p (type_at rest) (equation_at rest) (input_count rest) (inputs_below rest)) streams_same property_same
      ∙ ap₂ (λ (k : ℕ → StreamType) (f : ℕ → Equation). made (streams_of file) (property_of file) k f (input_count rest) (inputs_below rest)) types_same equations_same
      ∙ ap₂ (made (streams_of file) (property_of file) (type_at file) (equation_at file)) inputs_same (fun_ext inputs_below_same)

  -- 33's test asks the same of it
  pub input_fits_same : (inputs : List ℤ) → input_fits rest inputs ≡ input_fits file inputs
  unfolding input_fits
  input_fits_same inputs =
      fun_ext (λ i. ap₂ (λ (b : Bool) (n : Node). not b || fits_test (n.types i) (given n inputs i)) (is_input_same i) node_same)
