-- The certificate's note: "handed back likewise, empty on 11 to 14".
use Rattle.std.specs.Prelude.{ℕ, ◌-◌, List, Bool, cond, ◌&&◌, length}
use Rattle.node.specs.Rules.{length_ok}
use Rattle.constraints.specs.Layout.{trailer_of, size_of}
use Rattle.constraints.specs.Rules.{fixed_ok, counts_ok, distance_ok}
use Rattle.rules.specs.Versions.{Version}

-- 11 to 14 pass
unfoldable pub file_ok : Version → List ℕ → Bool
file_ok version cert =
    length_ok (length cert)
    && (fixed_ok version.byte (trailer_of cert) && counts_ok (trailer_of cert) && distance_ok (trailer_of cert) (length cert))

-- how many bytes the note has
unfoldable pub note_length : Version → List ℕ → ℕ
note_length version cert = cond (file_ok version cert) (length cert - size_of (trailer_of cert)) 0
