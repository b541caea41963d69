-- Text written piece after piece. Assumes nothing.
use mathlib.Core.Path.{◌≡◌, refl, sym, ap, ◌∙◌}
use Prim.Native.Nat.{ℕ, suc, ◌+◌, ◌-◌, ◌≤◌, ◌<◌}
use mathlib.Core.List.{List, [], ◌∷◌, ◌++◌, append_assoc}
use native.Mathlib.Omega.{arith}
use native.Mathlib.Nat.{zero-add}
use native.Mathlib.Numerals.{add-one}
use borrow.Rule.Slice.PartMut.{put_mid}
use lib.ListN.{length, take, drop, get_or, set, length-append}
use lib.Seq.{sets, sets-eq, length-sets, length-take-le, take-suc, drop-drop}
use Rattle.report.specs.Line.{overwritten, Leading}
use Rattle.report.specs.Written.{Written}

pub sets_append : (l : List ℕ) (i : ℕ) (a b : List ℕ) → sets l i (a ++ b) ≡ sets (sets l i a) (i + length a) b
sets_append l i [] b = ap (λ (k : ℕ). sets l k b) (omega arith)
sets_append l i (x ∷ a) b =
    sets_append (set l i x) (suc i) a b ∙ ap (λ (k : ℕ). sets (sets (set l i x) (suc i) a) k b) (omega arith)

-- one byte more of a text
pub sets_more : (l : List ℕ) (at : ℕ) (text : List ℕ) (i : ℕ) → i < length text
    → set (sets l at (take i text)) (at + i) (get_or text i 0) ≡ sets l at (take (i + 1) text)
sets_more l at text i h =
    let e : length (take i text) ≡ i = length-take-le i text (omega arith) in
    sym (rw (add-one, take-suc text i 0 h, sets_append, e))

-- a text in the place of as many bytes from an index on
pub put_is_sets : (l : List ℕ) (at : ℕ) {written : List ℕ} (text : List ℕ) → at + length text ≤ length l → written ≡ text
    → put_mid at (at + length text - at) l written ≡ sets l at text
put_is_sets l at text h e =
    let n : at + length text - at ≡ length text = omega arith in
    rw (e, n, drop-drop (length text) at l) (sym (append_assoc (take at l) text (drop (at + length text) l)) ∙ sym (sets-eq text l at h))

-- one text after another
pub then : {old mid new a b : List ℕ} {at k r : ℕ} → Written old at a mid k → Written mid k b new r → Written old at (a ++ b) new r
then {old} {mid} {new} {a} {b} {at} w v =
    record {
      past = omega (arith, w.past, v.past, length-append a b);
      bytes = v.bytes ∙ rw (w.bytes, w.past) (sym (sets_append old at a b));
    }

-- no text leaves a buffer as it is
pub nothing : (old : List ℕ) (at : ℕ) → Written old at [] old at
nothing old at = record { past = omega arith; bytes = refl }

-- a text from the start on is the leading bytes
pub from_start : {old text new : List ℕ} {r : ℕ} → Written old 0 text new r → r ≤ length old
    → ((r ≡ length text) × (new ≡ overwritten text old)) × Leading r new
from_start {old} {text} {new} {r} w h =
    let past = simp zero-add at w.past in
    let fits : r ≤ length new = rw (w.bytes, length-sets old 0 text) h in (
      (past, w.bytes ∙ sets-eq text old 0 (simp zero-add (rw past at h)) ∙ simp zero-add),
      (fits, sym (length-take-le r new fits)),
    )
