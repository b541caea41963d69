-- The archive: its verdicts are sound by the same proof as those of version 2, and its files are refused with 12.
-- Assumes nothing.
use Rattle.rules.specs.Versions.{version1}
use Rattle.rules.proofs.Outcomes.{accepted_keeps}
use Rattle.rules.proofs.OtherVersions.{archived_refused}
use Rattle.rules.proofs.Soundness.{archive_covers}
use Rattle.archive.specs.Archive.{ArchivedSound, ArchivedDemand3, ArchivedRefused}
use Rattle.soundness.proofs.Demands.{demand_for}
use Rattle.soundness.proofs.Soundness.{sound_for}

pub archived_sound : ArchivedSound
archived_sound = sound_for version1 archive_covers

pub archived_demand_3 : ArchivedDemand3
archived_demand_3 = demand_for version1 archive_covers

pub now_refused : ArchivedRefused
now_refused node cert v e = archived_refused node cert (accepted_keeps version1 node cert e)
