-- `certificate::lines_turn` meets its contract: 55, the first line refused, or what is after the lines.
use mathlib.Core.Path.{◌≡◌, sym, ◌∙◌, ap}
use Prim.Native.Nat.{ℕ, ◌+◌, ◌-◌, ◌≤◌, min}
use native.Mathlib.Nat.{min-le_right}
use native.Mathlib.Omega.{arith}
use Rattle.rules.specs.Turns.{due_of, next_lines, after_lines, then_turn, lines_turn}
use Rattle.rules.specs.Verdict.{lines_of}
use Rattle.rules.specs.Versions.{version2}
use Rattle.rules.proofs.Turns.{turn_past, turn_within}
use Rattle.lines.proofs.LineFacts.{framed}
use Rattle.certificate.proofs.PartFacts.{lines_counted}
use Rattle.certificate.proofs.checker.lines_turn.Goals as goal

pub returns-then-lines-line : goal.returns-then-lines-line
returns-then-lines-line c =
    let counted : (c.args.f.base + c.args.f.step ≡ lines_of c.args.cert.now) = lines_counted c.args.cert.now c.args.f _ _ c.requires.0.frame in
    rw (turn_past version2 c.args.node.now c.args.cert.now c.args.progress.line c.args.quota (omega (arith, counted, c.if-lines-line.true)))
    c.unmoved.ensures

pub after_lines-requires : goal.after_lines-requires
after_lines-requires c =
    let line : (ℕ) = c.args.progress.line in
    let due_room : (line + c.min-n.result ≤ c.args.f.base + c.args.f.step) = omega (arith, c.min-n.ensures, min-le_right c.args.quota (c.args.f.base + c.args.f.step - line), c.if-lines-line.false) in
    record { f_value = framed _ _ _ c.requires.0; step_in_bounds = (c.requires.0.room, due_room) }

pub returns-in-Ok : goal.returns-in-Ok
returns-in-Ok c =
    let counted : (c.args.f.base + c.args.f.step ≡ lines_of c.args.cert.now) = lines_counted c.args.cert.now c.args.f _ _ c.requires.0.frame in
    let line : (ℕ) = c.args.progress.line in
    let due_is : (c.min-n.result ≡ due_of c.args.cert.now line c.args.quota) = c.min-n.ensures ∙ ap (λ (lines : ℕ). min c.args.quota (lines - line)) counted in
    let within : (lines_turn version2 c.args.node.now c.args.cert.now line c.args.quota ≡ then_turn (next_lines version2 c.args.node.now c.args.cert.now line c.min-n.result) (after_lines version2 c.args.node.now c.args.cert.now (line + c.min-n.result))) = turn_within version2 c.args.node.now c.args.cert.now line c.args.quota (omega (arith, counted, c.if-lines-line.false))
    ∙ ap (λ (n : ℕ). then_turn (next_lines version2 c.args.node.now c.args.cert.now line n) (after_lines version2 c.args.node.now c.args.cert.now (line + n))) (sym due_is) in
    rw (← due_is, within, sym c.next_lines.ensures ∙ c.in-Ok.is)
    (c.after_lines.ensures c.args.node.now)

pub returns-in-Err : goal.returns-in-Err
returns-in-Err c =
    let counted : (c.args.f.base + c.args.f.step ≡ lines_of c.args.cert.now) = lines_counted c.args.cert.now c.args.f _ _ c.requires.0.frame in
    let line : (ℕ) = c.args.progress.line in
    let due_is : (c.min-n.result ≡ due_of c.args.cert.now line c.args.quota) = c.min-n.ensures ∙ ap (λ (lines : ℕ). min c.args.quota (lines - line)) counted in
    let within : (lines_turn version2 c.args.node.now c.args.cert.now line c.args.quota ≡ then_turn (next_lines version2 c.args.node.now c.args.cert.now line c.min-n.result) (after_lines version2 c.args.node.now c.args.cert.now (line + c.min-n.result))) = turn_within version2 c.args.node.now c.args.cert.now line c.args.quota (omega (arith, counted, c.if-lines-line.false))
    ∙ ap (λ (n : ℕ). then_turn (next_lines version2 c.args.node.now c.args.cert.now line n) (after_lines version2 c.args.node.now c.args.cert.now (line + n))) (sym due_is) in
    rw (within, sym c.next_lines.ensures ∙ c.in-Err.is)
    c.unmoved-in-Err.ensures
