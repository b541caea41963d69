-- The archive: certificates of version 1, which were accepted before version 2. "Version 1 files are now refused with 12. Archived verdicts and
-- the theorem behind them remain".
use Rattle.std.specs.Prelude.{◌≡◌, ℕ, List}
use Rattle.answers.specs.declared.Place.TheVariants.{File}
use Rattle.answers.specs.Answer.{accepted, refused}
use Rattle.answers.specs.declared.CertificateValues.{CertificateValues}
use Rattle.rules.specs.Verdict.{verdict_of, archived_verdict}
use Rattle.rules.specs.Versions.{version1, version2}
use Rattle.soundness.specs.Demands.{DemandFor}
use Rattle.soundness.specs.Theorems.{SoundFor}

-- the theorem behind archived verdicts: a node whose certificate was accepted has its property at every instant
abbrev pub ArchivedSound : Type 0
ArchivedSound = SoundFor version1

-- and all of demand 3, in the sessions of today
abbrev pub ArchivedDemand3 : Type 0
ArchivedDemand3 = DemandFor version1

-- "Version 1 files are now refused with 12.": each that was accepted
abbrev pub ArchivedRefused : Type 0
ArchivedRefused =
    (node cert : List ℕ) (v : CertificateValues) → archived_verdict node cert ≡ accepted v
    → verdict_of version2 node cert ≡ refused 12 File
