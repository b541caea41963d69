-- `certificate::verdict` meets its contract: a turn with everything is never unfinished, and its answer is the verdict.
use mathlib.Core.Path.{◌≡◌, refl, sym, ◌∙◌, ap}
use native.Mathlib.Nat.{le_refl}
use Rattle.answers.specs.Answer.{Answer}
use Rattle.answers.specs.declared.CertificateValues.{CertificateValues}
use Rattle.rules.specs.Turns.{Turn, turn_of}
use Rattle.rules.specs.Verdict.{verdict_of}
use Rattle.rules.specs.Versions.{version2}
use Rattle.rules.proofs.TurnLists.{one_turn}
use Rattle.certificate.specs.declared.turned.Progress.{Progress}
use Rattle.certificate.proofs.reading.verdict.Goals as goal
use Rattle.std.specs.Prelude.{Option, Some, None, IsSome}

is_there : {A : Type 0} {o : Option A} {a : A} → o ≡ Some a → IsSome o
is_there {o = Some a} e = refl
is_there {o = None} e = cc

given : {A : Type 0} (a b : A) → Some a ≡ Some b → a ≡ b
given a b e = cc

pub unwrap-requires : goal.unwrap-requires
unwrap-requires c =
    let a = c.args in
    is_there
    (ap (λ (t : Turn). t.answer) c.turn.ensures
    ∙ ap (λ (p : Progress). (turn_of version2 a.node.now a.cert.now p.line 818).answer) c.begin.ensures
    ∙ one_turn version2 a.node.now a.cert.now 818 (le_refl 818))

pub returns : goal.returns
returns c =
    let a = c.args in
    let answer_is : c.turn.result.verdict ≡ Some (verdict_of version2 a.node.now a.cert.now) =
    ap (λ (t : Turn). t.answer) c.turn.ensures
    ∙ ap (λ (p : Progress). (turn_of version2 a.node.now a.cert.now p.line 818).answer) c.begin.ensures
    ∙ one_turn version2 a.node.now a.cert.now 818 (le_refl 818) in
    given _ _ (sym c.unwrap.ensures ∙ answer_is)
