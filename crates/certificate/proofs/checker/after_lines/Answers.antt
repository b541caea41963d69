-- `certificate::after_lines` meets its contract: lines are left, or what rule 21 says.
use mathlib.Core.Path.{◌≡◌, sym, ◌∙◌, ap}
use Prim.Native.Nat.{◌+◌}
use native.Mathlib.Omega.{arith}
use Rattle.answers.specs.Answer.{final}
use Rattle.rules.specs.Turns.{after_lines}
use Rattle.rules.specs.Verdict.{lines_of, parts_verdict}
use Rattle.rules.specs.Versions.{version2}
use Rattle.rules.proofs.Turns.{after_left, after_none}
use Rattle.certificate.proofs.PartFacts.{lines_counted}
use Rattle.certificate.proofs.checker.after_lines.Goals as goal

pub returns-then-progress-n : goal.returns-then-progress-n
returns-then-progress-n c node =
    let counted : (c.args.f.base + c.args.f.step ≡ lines_of c.args.cert.now) = lines_counted c.args.cert.now c.args.f _ _ c.requires.f_value in
    rw (after_left version2 node c.args.cert.now (c.args.progress.line + c.args.n) (omega (arith, counted, c.if-progress-n.true)))
    c.moved_on.ensures

pub returns-in-Ok : goal.returns-in-Ok
returns-in-Ok c node =
    let counted : (c.args.f.base + c.args.f.step ≡ lines_of c.args.cert.now) = lines_counted c.args.cert.now c.args.f _ _ c.requires.f_value in
    let none_left : after_lines version2 node c.args.cert.now (c.args.progress.line + c.args.n) ≡ final (parts_verdict version2 node c.args.cert.now) = after_none version2 node c.args.cert.now (c.args.progress.line + c.args.n) (omega (arith, counted, c.if-progress-n.false)) in
    rw (none_left, sym (c.parts_verdict.ensures node) ∙ c.in-Ok.is)
    c.moved_on-in-Ok.ensures

pub returns-in-Err : goal.returns-in-Err
returns-in-Err c node =
    let counted : (c.args.f.base + c.args.f.step ≡ lines_of c.args.cert.now) = lines_counted c.args.cert.now c.args.f _ _ c.requires.f_value in
    let none_left : after_lines version2 node c.args.cert.now (c.args.progress.line + c.args.n) ≡ final (parts_verdict version2 node c.args.cert.now) = after_none version2 node c.args.cert.now (c.args.progress.line + c.args.n) (omega (arith, counted, c.if-progress-n.false)) in
    rw (none_left, sym (c.parts_verdict.ensures node) ∙ c.in-Err.is)
    c.unmoved.ensures
