-- `soundness::is_proved` meets its contract: an accepted certificate is sound.
use mathlib.Core.Path.{◌≡◌, sym, ◌∙◌}
use mathlib.Core.Bool.{true, false≢true}
use mathlib.Core.List.{List}
use Prim.Native.Nat.{ℕ}
use Rattle.answers.specs.Answer.{Answer}
use Rattle.answers.specs.declared.CertificateValues.{CertificateValues}
use Rattle.rules.specs.Verdict.{verdict_of}
use Rattle.rules.specs.Theorems.{PropertyHolds}
use Rattle.rules.specs.Versions.{version2}
use Rattle.soundness.proofs.Soundness.{sound}
use Rattle.soundness.proofs.is_proved.Goals as goal
use Rattle.std.specs.Prelude.{Ok, Err, is_ok}

holds : (node cert : List ℕ) (answer : Answer CertificateValues) → verdict_of version2 node cert ≡ answer → is_ok answer ≡ true → PropertyHolds node
holds node cert (Ok values) e ok = sound _ _ _ e
holds node cert (Err r) e ok = absurd (false≢true ok)

pub returns-clause-property : goal.returns-clause-property
returns-clause-property c r = holds c.args.node.now c.args.cert.now _ (sym c.verdict.ensures) (sym c.is_ok.ensures.value ∙ r)
