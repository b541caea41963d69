-- What rules 11 to 15 of a certificate say in numbers.
-- Assumes nothing.
use mathlib.Core.Path.{◌≡◌, refl}
use mathlib.Core.Bool.{Bool, true, false, cond}
use mathlib.Core.List.{List}
use Prim.Native.Nat.{ℕ, ◌≤◌, ◌<◌}
use native.Mathlib.Omega.{arith}
use borrow.Author.Tests.{ltb-true}
use lib.Dec.{ltb}
use Rattle.node.specs.Equations.{byte_of, type_at}
use Rattle.node.specs.Layout.{streams_of}
use Rattle.node.proofs.FileRules.{sizes}
use Rattle.constraints.specs.Layout.{trailer_of, constraint_of}
use Rattle.rules.specs.Limited.{Limited}
use Rattle.rules.specs.Types.{types_below}
use Rattle.rules.specs.Outcome.{FileRules, CertificateRules}
use Rattle.rules.specs.Verdict.{types_of_node}
use Rattle.rules.specs.Versions.{Version}
use Rattle.rules.proofs.ConstraintLimits.{limited}
use Rattle.rules.proofs.FileFacts.{FileFacts, file_facts, file_passed}

pub certificate_sizes : (version : Version) (cert : List ℕ) → FileRules version cert → FileFacts cert
certificate_sizes version cert rules = file_facts version cert (file_passed version cert rules.size rules.fixed rules.counts rules.distance)

-- int streams are among the first 64
pub few_streams : (node : List ℕ) (n : ℕ) → n ≤ 64 → (x : ℕ) → types_below node n x ≡ 1 → x < 64
few_streams node n most x = go (ltb x n) refl
  where
    go : (b : Bool) → ltb x n ≡ b → cond b (byte_of (type_at node x)) 2 ≡ 1 → x < 64
    go true e f = omega (arith, ltb-true x n e)
    go false e f = omega arith

-- each constraint is within its limits
pub constraint_limited : (version : Version) (node cert : List ℕ) → CertificateRules version node cert → (i : ℕ) → i < (trailer_of cert).constraints → Limited (constraint_of cert i)
constraint_limited version node cert rules i l =
    limited (types_of_node node) (few_streams node (streams_of node) (sizes node rules.node_rules.file).few)
    (trailer_of cert).depth (certificate_sizes version cert rules.file).deep (constraint_of cert i) (rules.constraints i l)
