-- `certificate::certificate_turn` meets its contract: the opening's refusal, or the turn's lines.
use mathlib.Core.Path.{◌≡◌, sym, ◌∙◌}
use Prim.Native.Nat.{ℕ}
use Rattle.std.specs.Prelude.{Ok, Err}
use Rattle.constraints.specs.declared.layout.Trailer.{Trailer}
use Rattle.answers.specs.Answer.{Answer, accepted}
use Rattle.constraints.specs.Layout.{trailer_of}
use Rattle.constraints.specs.Rules.{types_of}
use Rattle.rules.specs.Verdict.{types_of_node, file_verdict}
use Rattle.rules.specs.Versions.{version2}
use Rattle.certificate.specs.Opening.{opening_of}
use Rattle.certificate.proofs.Openings.{counted_streams, node_types, unopened, file_accepted, frame_room, checking}
use Rattle.certificate.proofs.reading.certificate_turn.Goals as goal

pub types_of-types-requires : goal.types_of-types-requires
types_of-types-requires c = counted_streams _ _ _ c.requires

pub opening-requires : goal.opening-requires
opening-requires c =
    let are_types : ((x : ℕ) → types_of c.types_of-types.result x ≡ types_of_node c.args.node.now x) = node_types _ c.types_of-types.result _ _ c.requires c.types_of-types.ensures.types in
    are_types

pub frame_of-f-requires : goal.frame_of-f-requires
frame_of-f-requires c =
    let passed : (let a = c.args in ◌≡◌ {A = Answer Trailer} (Ok c.in-Ok.t) (opening_of (trailer_of a.cert.now) (file_verdict version2 a.node.now a.cert.now))) = sym c.in-Ok.is ∙ c.opening.ensures in
    frame_room _ _ _ _ _ c.requires passed

pub lines_turn-requires : goal.lines_turn-requires
lines_turn-requires c =
    let are_types : ((x : ℕ) → types_of c.types_of-types.result x ≡ types_of_node c.args.node.now x) = node_types _ c.types_of-types.result _ _ c.requires c.types_of-types.ensures.types in
    let passed : (let a = c.args in ◌≡◌ {A = Answer Trailer} (Ok c.in-Ok.t) (opening_of (trailer_of a.cert.now) (file_verdict version2 a.node.now a.cert.now))) = sym c.in-Ok.is ∙ c.opening.ensures in
    (checking _ _ _ _ _ c.requires passed _ c.frame_of-f.ensures, are_types)

pub returns-in-Ok : goal.returns-in-Ok
returns-in-Ok c =
    let passed : (let a = c.args in ◌≡◌ {A = Answer Trailer} (Ok c.in-Ok.t) (opening_of (trailer_of a.cert.now) (file_verdict version2 a.node.now a.cert.now))) = sym c.in-Ok.is ∙ c.opening.ensures in
    let file_is : (let a = c.args in file_verdict version2 a.node.now a.cert.now ≡ accepted tt) = file_accepted _ _ _ _ _ c.requires passed in
    rw file_is c.lines_turn.ensures

pub returns-in-Err : goal.returns-in-Err
returns-in-Err c =
    let refused_is : (let a = c.args in file_verdict version2 a.node.now a.cert.now ≡ Err c.in-Err.refusal) = unopened _ _ _ (sym c.in-Err.is ∙ c.opening.ensures) in
    rw refused_is c.unmoved.ensures
