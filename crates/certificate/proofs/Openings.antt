-- What rules 1 to 8, 23 and 11 to 15 leave, put together for the checks of lines.
-- Assumes nothing.
use mathlib.Core.Path.{◌≡◌, refl, sym, ◌∙◌, ap, ap₂, fun_ext}
use mathlib.Core.List.{List}
use Prim.Native.Nat.{ℕ, ◌≤◌, ◌+◌, ◌*◌}
use native.Mathlib.Omega.{arith}
use lib.ListN.{length}
use Rattle.answers.specs.declared.Refusal.{Refusal}
use Rattle.answers.specs.Answer.{Answer, accepted, refused}
use Rattle.answers.specs.declared.NodeValues.{NodeValues}
use Rattle.answers.specs.Checks.{lowest}
use Rattle.node.specs.Layout.{records_of}
use Rattle.node.specs.Verdict.{verdict_of as node_verdict}
use Rattle.node.proofs.FileRules.{sizes}
use Rattle.node.proofs.Outcomes.{accepted_keeps, accepted_values}
use Rattle.constraints.specs.declared.layout.Trailer.{Trailer}
use Rattle.constraints.specs.Layout.{trailer_of, size_of, start_of}
use Rattle.constraints.specs.Ready.{Ready}
use Rattle.constraints.specs.Rules.{Types, types_of, constraint_passes as passes_from}
use Rattle.rules.specs.Types.{types_below}
use Rattle.rules.specs.Verdict.{types_of_node, constraint_passes, file_verdict}
use Rattle.rules.specs.Versions.{version2}
use Rattle.rules.proofs.FileFacts.{FileFacts, file_facts, file_passed}
use Rattle.rules.proofs.Outcomes.{file_opens}
use Rattle.lines.specs.declared.frame.Frame.{Frame}
use Rattle.lines.specs.Checking.{Checking}
use Rattle.lines.specs.Frame.{frame_of}
use Rattle.certificate.specs.Opening.{NodePassed, FilePassed, opening_of}
use Rattle.std.specs.Prelude.{Err, Ok}

-- an accepted node file, from the values that its answer carries
pub node_passed : (node : List ℕ) (n property : ℕ) → node_verdict node ≡ accepted (record { streams = n; property = property }) → NodePassed node n property
node_passed node n property e =
    let v = accepted_values node e in
    record {
      streams = ap (λ (u : NodeValues). u.streams) v;
      property_is = ap (λ (u : NodeValues). u.property) v;
      node_rules = accepted_keeps node e;
    }

pub counted_streams : (node : List ℕ) (n property : ℕ) → NodePassed node n property → (n ≤ 64) × (n ≡ records_of node)
counted_streams node n property passed =
    let small = sizes node passed.node_rules.file in
    (rw passed.streams small.few, passed.streams ∙ sym small.records)

-- the types that were read are the node's
pub node_types : (node types : List ℕ) (n property : ℕ) → NodePassed node n property → ((x : ℕ) → types_of types x ≡ types_below node n x) → (x : ℕ) → types_of types x ≡ types_of_node node x
node_types node types n property passed are_types x = rw (← passed.streams) (are_types x)

module _ (cert : List ℕ) (t : Trailer) (of_file : FilePassed cert t) where
  facts : FileFacts cert
  facts = file_facts version2 cert of_file.file

  pub start_room : (t ≡ trailer_of cert) × (size_of (trailer_of cert) ≤ length cert)
  start_room = (of_file.trailer, facts.room)

  pub constraints_room : (start : ℕ) → start ≡ start_of cert → start + 80 * t.constraints ≤ length cert
  constraints_room start e = rw (e, of_file.trailer) (omega (arith, facts.room))

  -- the search over the constraints is the definition's
  pub constraints_searched : (node types : List ℕ) → ((x : ℕ) → types_of types x ≡ types_of_node node x) → (start : ℕ) → start ≡ start_of cert → lowest (constraint_passes node cert) (trailer_of cert).constraints ≡ lowest (passes_from (types_of types) t.depth cert start) t.constraints
  constraints_searched node types are_types start e =
      rw (e, of_file.trailer) (ap (λ (f : Types). lowest (passes_from f (trailer_of cert).depth cert (start_of cert)) (trailer_of cert).constraints) (sym (fun_ext are_types)))

-- what an opening says that has passed
opened : (t u : Trailer) (a : Answer (Unit {0})) → ◌≡◌ {A = Answer Trailer} (Ok t) (opening_of u a) → (a ≡ accepted tt) × (t ≡ u)
opened t u (Ok v) e = (refl, cc)
opened t u (Err r) e = cc

-- .. and one that has not
pub unopened : (t : Trailer) (a : Answer (Unit {0})) (r : Refusal) → ◌≡◌ {A = Answer Trailer} (Err r) (opening_of t a) → a ≡ Err r
unopened t (Ok v) r e = cc
unopened t (Err s) r e = cc

module _ (node cert : List ℕ) (t : Trailer) (n property : ℕ) (of_node : NodePassed node n property) (e : ◌≡◌ {A = Answer Trailer} (Ok t) (opening_of (trailer_of cert) (file_verdict version2 node cert))) where
  pub file_accepted : file_verdict version2 node cert ≡ accepted tt
  file_accepted = (opened t (trailer_of cert) (file_verdict version2 node cert) e).0

  ready : Ready (types_of_node node) cert
  ready =
      let b = file_opens version2 node cert of_node.node_rules file_accepted in
      let f = file_facts version2 cert (file_passed version2 cert b.file.size b.file.fixed b.file.counts b.file.distance) in
      record { room = f.room; most = f.most; least = f.some; deep = f.deep; few = f.few; constraints = b.constraints }

  pub frame_room : (t ≡ trailer_of cert) × (size_of (trailer_of cert) ≤ length cert)
  frame_room = ((opened t (trailer_of cert) (file_verdict version2 node cert) e).1, ready.room)

  pub checking : (f : Frame) → f ≡ frame_of cert n property → Checking node cert f
  checking f g =
      record {
        frame = g ∙ ap₂ (frame_of cert) of_node.streams of_node.property_is;
        room = rw g (omega (arith, ready.room));
        node_rules = of_node.node_rules;
        ready = ready;
      }
