-- What rules 11 to 14 say in numbers.
-- Assumes nothing.
use mathlib.Core.Path.{◌≡◌}
use mathlib.Core.Bool.{Bool, true, false, cond, ◌&&◌}
use mathlib.Core.List.{List}
use Prim.Native.Nat.{ℕ, ◌-◌, ◌≤◌, zero-le}
use native.Mathlib.Omega.{arith}
use borrow.Author.Tests.{leb-true, eqb-true}
use lib.Dec.{leb, eqb}
use lib.ListN.{length}
use Rattle.answers.proofs.Tests.{both_true}
use Rattle.node.specs.Rules.{length_ok}
use Rattle.constraints.specs.Layout.{trailer_of, size_of}
use Rattle.constraints.specs.Rules.{fixed_ok, counts_ok, distance_ok}
use Rattle.rules.specs.Note.{file_ok, note_length}
use Rattle.rules.specs.Versions.{Version}

-- 11 to 14, one by one
pub file_passed : (version : Version) (cert : List ℕ) → length_ok (length cert) ≡ true → fixed_ok version.byte (trailer_of cert) ≡ true → counts_ok (trailer_of cert) ≡ true → distance_ok (trailer_of cert) (length cert) ≡ true → file_ok version cert ≡ true
unfolding file_ok
file_passed version cert a b c d = rw (a, b, c, d)

pub record FileFacts (cert : List ℕ) : Type 0 where
  pub least : 16 ≤ length cert
  pub most : length cert ≤ 65535
  pub some : 1 ≤ (trailer_of cert).depth
  pub deep : (trailer_of cert).depth ≤ 8
  pub few : (trailer_of cert).constraints ≤ 256
  pub room : size_of (trailer_of cert) ≤ length cert

pub file_facts : (version : Version) (cert : List ℕ) → file_ok version cert ≡ true → FileFacts cert
unfolding file_ok length_ok counts_ok distance_ok
file_facts version cert e =
    let t = trailer_of cert in
    let size = length cert in
    let all = both_true (length_ok size) (fixed_ok version.byte t && counts_ok t && distance_ok t size) e in
    let long = both_true (leb 16 size) (leb size 65535) all.0 in
    let rest = both_true (fixed_ok version.byte t && counts_ok t) (distance_ok t size) all.1 in
    let counts = both_true (leb 1 t.depth && leb t.depth 8) (leb t.constraints 256) (both_true (fixed_ok version.byte t) (counts_ok t) rest.0).1 in
    let depth = both_true (leb 1 t.depth) (leb t.depth 8) counts.0 in
    let distance = both_true (eqb t.distance (size_of t)) (leb t.distance size) rest.1 in
    record {
      least = leb-true _ _ long.0;
      most = leb-true _ _ long.1;
      some = leb-true _ _ depth.0;
      deep = leb-true _ _ depth.1;
      few = leb-true _ _ counts.1;
      room = rw (eqb-true t.distance (size_of t) distance.0) at (leb-true t.distance size distance.1);
    }

pub note_fits : (version : Version) (cert : List ℕ) → note_length version cert ≤ length cert
unfolding note_length
note_fits version cert = go (file_ok version cert)
  where
    go : (b : Bool) → cond b (length cert - size_of (trailer_of cert)) 0 ≤ length cert
    go true = omega arith
    go false = zero-le
