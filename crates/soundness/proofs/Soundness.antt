-- An accepted certificate proves its property: it keeps the rules, and these are sound.
-- Assumes nothing.
use Rattle.rules.specs.Theorems.{Covers}
use Rattle.rules.specs.Versions.{Version, version2}
use Rattle.rules.proofs.Outcomes.{accepted_keeps}
use Rattle.rules.proofs.Soundness.{rules_sound, current_covers}
use Rattle.soundness.specs.Theorems.{SoundFor, Sound}

pub sound_for : (version : Version) → Covers version → SoundFor version
sound_for version covers node cert v e = rules_sound version covers node cert (accepted_keeps version node cert e)

pub sound : Sound
sound = sound_for version2 current_covers
