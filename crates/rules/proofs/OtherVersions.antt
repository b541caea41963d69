-- A certificate of one version is refused by the rules of another with 12, where its node keeps its rules: so is now each of the archive.
-- Assumes nothing.
use mathlib.Core.Path.{◌≡◌, refl, sym, ◌∙◌}
use mathlib.Core.Bool.{Bool, true, false, ◌&&◌, false≢true}
use mathlib.Core.List.{List}
use borrow.Author.Tests.{eqb-true, eq-eqb}
use lib.Dec.{eqb}
use lib.ListN.{length}
use Prim.Native.Nat.{ℕ}
use Rattle.answers.specs.declared.Place.TheVariants.{File}
use Rattle.answers.specs.Answer.{refused}
use Rattle.answers.proofs.Tests.{both_true}
use Rattle.node.specs.Outcome.{NodeRules}
use Rattle.node.specs.Rules.{length_ok}
use Rattle.node.proofs.Outcomes.{keeps_accepted}
use Rattle.constraints.specs.declared.layout.Trailer.{Trailer}
use Rattle.constraints.specs.Layout.{trailer_of}
use Rattle.constraints.specs.Rules.{fixed_ok}
use Rattle.rules.specs.Outcome.{CertificateRules}
use Rattle.rules.specs.Verdict.{file_verdict, before_lines, verdict_of}
use Rattle.rules.specs.Versions.{Version, version1, version2}

-- a trailer has one version byte
version_is : (byte : ℕ) (t : Trailer) → fixed_ok byte t ≡ true → t.version ≡ byte
unfolding fixed_ok
version_is byte t e =
    let all = both_true (eqb t.first 0x4B && eqb t.second 0x43 && eqb t.version byte) (eqb t.zeros 0) e in
    eqb-true t.version byte (both_true (eqb t.first 0x4B && eqb t.second 0x43) (eqb t.version byte) all.0).1

not_fixed : (byte other : ℕ) (t : Trailer) → eqb other byte ≡ false → fixed_ok other t ≡ true → fixed_ok byte t ≡ false
not_fixed byte other t differ e = go (fixed_ok byte t) refl
  where
    go : (b : Bool) → fixed_ok byte t ≡ b → b ≡ false
    go false f = refl
    go true f = absurd (false≢true (sym differ ∙ eq-eqb other byte (sym (version_is other t e) ∙ version_is byte t f)))

other_refused : (version other : Version) → eqb other.byte version.byte ≡ false
    → (node cert : List ℕ) → NodeRules node → length_ok (length cert) ≡ true → fixed_ok other.byte (trailer_of cert) ≡ true
    → verdict_of version node cert ≡ refused 12 File
unfolding verdict_of before_lines file_verdict
other_refused version other differ node cert rules size fixed =
    rw (keeps_accepted node rules, size, not_fixed version.byte other.byte (trailer_of cert) differ fixed)

-- "Version 1 files are now refused with 12."
pub archived_refused : (node cert : List ℕ) → CertificateRules version1 node cert → verdict_of version2 node cert ≡ refused 12 File
archived_refused node cert rules =
    other_refused version2 version1 refl node cert rules.node_rules rules.file.size rules.file.fixed
