-- What an accepted certificate proves, stated without the proofs.
use Rattle.std.specs.Prelude.{◌≡◌, ℕ, List}
use Rattle.answers.specs.Answer.{accepted}
use Rattle.answers.specs.declared.CertificateValues.{CertificateValues}
use Rattle.rules.specs.Theorems.{PropertyHolds}
use Rattle.rules.specs.Verdict.{verdict_of}
use Rattle.rules.specs.Versions.{Version, version2}

-- of a version, whatever bytes the two files hold
abbrev pub SoundFor : Version → Type 0
SoundFor version = (node cert : List ℕ) (v : CertificateValues) → verdict_of version node cert ≡ accepted v → PropertyHolds node

-- of the version that is checked
abbrev pub Sound : Type 0
Sound = SoundFor version2
