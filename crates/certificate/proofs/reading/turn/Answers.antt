-- `certificate::turn` meets its contract: the node's refusal, or the turn on the certificate.
use mathlib.Core.Path.{◌≡◌, sym, ◌∙◌, ap}
use native.Mathlib.Omega.{arith}
use Rattle.answers.specs.Answer.{accepted}
use Rattle.std.specs.Prelude.{Err}
use Rattle.node.specs.Verdict.{verdict_of as node_verdict}
use Rattle.node.proofs.FileRules.{sizes}
use Rattle.rules.specs.Turns.{turn_answer_of, turn_of}
use Rattle.rules.specs.Verdict.{before_lines}
use Rattle.certificate.proofs.Openings.{node_passed}
use Rattle.certificate.proofs.reading.turn.Goals as goal

pub overflow_cast-values : goal.overflow_cast-values
overflow_cast-values c =
    let node_accepted : (node_verdict c.args.node.now ≡ accepted c.in-Ok.values) = sym c.verdict.ensures ∙ c.in-Ok.is in
    let passed = node_passed _ _ _ node_accepted in
    let small = sizes _ passed.node_rules.file in
    omega (arith, passed.property_is, small.property, small.few)

pub certificate_turn-requires : goal.certificate_turn-requires
certificate_turn-requires c =
    let node_accepted : (node_verdict c.args.node.now ≡ accepted c.in-Ok.values) = sym c.verdict.ensures ∙ c.in-Ok.is in
    node_passed _ _ _ node_accepted

pub returns-in-Ok : goal.returns-in-Ok
unfolding turn_of turn_answer_of before_lines
returns-in-Ok c =
    let node_accepted : (node_verdict c.args.node.now ≡ accepted c.in-Ok.values) = sym c.verdict.ensures ∙ c.in-Ok.is in
    rw node_accepted c.certificate_turn.ensures

pub returns-in-Err : goal.returns-in-Err
unfolding turn_of turn_answer_of before_lines
returns-in-Err c =
    let node_refused : (node_verdict c.args.node.now ≡ Err c.in-Err.refusal) = sym c.verdict.ensures ∙ c.in-Err.is in
    rw node_refused c.unmoved.ensures
