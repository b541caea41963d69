-- What was read of both files before the lines are checked, put to use: each line's rule as the verdict has it, and what a line that
-- passes rule 16 gives the rules after it.
-- Assumes nothing.
use mathlib.Core.Path.{◌≡◌, sym, ◌∙◌, ap, ap₂, fun_ext}
use mathlib.Core.Bool.{true}
use mathlib.Core.List.{List}
use Prim.Native.Nat.{ℕ, ◌+◌, ◌*◌, ◌≤◌}
use native.Mathlib.Omega.{arith}
use lib.ListN.{length}
use Rattle.node.specs.Equations.{type_at, equation_at}
use Rattle.node.specs.Layout.{streams_of, property_of, records_of}
use Rattle.node.proofs.FileRules.{sizes}
use Rattle.constraints.specs.declared.layout.LineHead.{LineHead}
use Rattle.constraints.specs.Layout.{Line, trailer_of, line_head_at, line_at, line_of, constraint_of, constraints_from, line_with}
use Rattle.constraints.specs.Rules.{Types, types_of}
use Rattle.rules.specs.Arithmetic.{arithmetic_ok}
use Rattle.rules.specs.Cuts.{cut_ok}
use Rattle.rules.specs.Joins.{join_ok}
use Rattle.rules.specs.Lines.{equation_in, shape_ok}
use Rattle.rules.specs.Verdict.{types_of_node, shape_passes, equation_passes, property_passes, join_passes, arithmetic_passes, cut_passes}
use Rattle.rules.specs.Versions.{version2}
use Rattle.rules.proofs.ConstraintLimits.{Few, limited}
use Rattle.rules.proofs.CertificateFacts.{few_streams}
use Rattle.rules.proofs.LineParts.{from_is}
use Rattle.rules.proofs.ShapeFacts.{ShapeFacts, shape_facts}
use Rattle.arithmetic.specs.Checkable.{Checkable}
use Rattle.arithmetic.proofs.Checkables.{checkable}
use Rattle.matching.specs.Content.{Readable}
use Rattle.lines.specs.declared.frame.Frame.{Frame}
use Rattle.lines.specs.Checking.{Checking}
use Rattle.lines.specs.Constants.{ConstantsLimited}
use Rattle.lines.specs.Frame.{frame_of, lines_at, part_in}
use Rattle.lines.proofs.NodeFacts.{constants_limited}

-- the lines of a frame are the file's
pub lines_are : (cert : List ℕ) (f : Frame) (n property : ℕ) → f ≡ frame_of cert n property → lines_at cert f.lines ≡ line_of cert
lines_are cert f n property e = rw e (fun_ext λ i. ap (line_at cert) (omega arith))

module _ (node cert : List ℕ) (f : Frame) (ch : Checking node cert f) where
  few : Few (types_of_node node)
  few = few_streams node (streams_of node) (sizes node ch.node_rules.file).few

  pub framed : f ≡ frame_of cert f.streams f.property
  framed = rw ch.frame

  pub deep : f.depth ≤ 8
  deep = rw ch.frame ch.ready.deep

  pub readable : Readable cert f.start f.constraints
  readable =
      rw ch.frame
      (record {
        room = omega (arith, ch.ready.room);
        constraints = λ i l. limited (types_of_node node) few (trailer_of cert).depth ch.ready.deep (constraint_of cert i) (ch.ready.constraints i l);
      })

  -- what the clauses of a stream ask of the node, up to offset k
  pub node_read : (offsets : ℕ) → offsets ≤ f.depth + 1 → ConstantsLimited node f.streams × (offsets ≤ 9) × (f.streams ≡ records_of node)
  node_read offsets l = (
    rw ch.frame (constants_limited node ch.node_rules),
    omega (arith, deep),
    rw ch.frame (sym (sizes node ch.node_rules.file).records),
  )

  lines : lines_at cert f.lines ≡ line_of cert
  lines = lines_are cert f _ _ ch.frame

  pub join_is : (i : ℕ) → join_ok (lines_at cert f.lines) (part_in f i).from i ≡ join_passes cert i
  join_is i =
      ap₂ (λ (g : Frame) (of : ℕ → Line). join_ok of (part_in g i).from i) ch.frame lines
      ∙ ap (λ (from : ℕ). join_ok (line_of cert) from i) (from_is version2 cert (property_of node) i)

  -- line i, which stands at an offset
  module _ (i at : ℕ) (e : at ≡ f.lines + 80 * i) where
    line_here : line_at cert at ≡ line_of cert i
    line_here = ap (line_at cert) e ∙ ap (λ (of : ℕ → Line). of i) lines

    pub equation_is : equation_in version2 f.streams (type_at node) (equation_at node) (constraints_from cert f.start) f.constraints (part_in f i).offsets (part_in f i).opening (line_at cert at) ≡ equation_passes version2 node cert i
    equation_is =
        ap₂
        (λ (g : Frame) (line : Line). equation_in version2 g.streams (type_at node) (equation_at node) (constraints_from cert g.start) g.constraints (part_in g i).offsets (part_in g i).opening line)
        ch.frame line_here

    pub arithmetic_is : arithmetic_ok (constraints_from cert f.start) (line_at cert at) ≡ arithmetic_passes cert i
    arithmetic_is = ap₂ (λ (g : Frame) (line : Line). arithmetic_ok (constraints_from cert g.start) line) ch.frame line_here

    pub cut_is : cut_ok (constraints_from cert f.start) (line_at cert at) ≡ cut_passes cert i
    cut_is = ap₂ (λ (g : Frame) (line : Line). cut_ok (constraints_from cert g.start) line) ch.frame line_here

    pub line_shape_is : shape_passes node cert i ≡ true → ShapeFacts (types_of_node node) (trailer_of cert).depth (trailer_of cert).constraints (line_at cert at)
    unfolding shape_passes
    line_shape_is passed = rw line_here (shape_facts (types_of_node node) (trailer_of cert).depth (trailer_of cert).constraints (line_of cert i) passed)

    pub line_checkable : at + 80 ≤ length cert → shape_passes node cert i ≡ true → Checkable cert f.start at
    line_checkable room passed =
        let shape = line_shape_is passed in
        rw ch.frame (checkable (types_of_node node) few cert ch.ready at room shape.count shape.atoms)

    -- .. and whose head was read
    module _ (h : LineHead) (g : h ≡ line_head_at cert at) where
      pub line_is : line_with cert at h ≡ line_of cert i
      line_is = ap (line_with cert at) g ∙ line_here

      pub kind_is : (line_of cert i).head.kind ≡ h.kind
      kind_is = ap (λ (line : Line). line.head.kind) (sym line_is)

      pub shape_is : (types : List ℕ) → ((x : ℕ) → types_of types x ≡ types_of_node node x) → shape_ok (types_of types) f.depth f.constraints (line_with cert at h) ≡ shape_passes node cert i
      unfolding shape_passes
      shape_is types are_types =
          ap₂ (λ (g : Frame) (line : Line). shape_ok (types_of types) g.depth g.constraints line) ch.frame line_is
          ∙ ap (λ (of : Types). shape_ok of (trailer_of cert).depth (trailer_of cert).constraints (line_of cert i)) (fun_ext are_types)

      pub property_is : (part_in f i).property (line_with cert at h) ≡ property_passes version2 node cert i
      property_is = ap₂ (λ (g : Frame) (line : Line). (part_in g i).property line) ch.frame line_is
