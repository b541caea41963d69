-- A turn from a record that turns on the same files have left: a final answer is that of one call.
-- Assumes nothing.
use mathlib.Core.Path.{◌≡◌, refl, sym, subst}
use mathlib.Core.Bool.{Bool, true, false}
use mathlib.Core.List.{List}
use Prim.Native.Nat.{ℕ, ◌+◌, ◌-◌, ◌<◌, ◌≤◌}
use native.Mathlib.Omega.{arith}
use borrow.Author.Tests.{ltb-true, ltb-false}
use lib.Dec.{ltb}
use Rattle.answers.specs.declared.Place.{Place}
use Rattle.answers.specs.declared.Place.TheVariants.{Line as AtLine}
use Rattle.answers.specs.Answer.{Answer, accepted, refused, TurnAnswer, final, unfinished}
use Rattle.answers.specs.declared.CertificateValues.{CertificateValues}
use Rattle.answers.specs.Checks.{Lowest}
use Rattle.answers.proofs.Lowest.{none, found}
use Rattle.rules.specs.Turns.{due_of, moved, turn_of}
use Rattle.rules.specs.Verdict.{lines_of, line_fault, line_passes, parts_verdict, lines_verdict, before_lines, verdict_of}
use Rattle.rules.specs.Versions.{Version}
use Rattle.rules.proofs.Turns.{moved_answer, due_left, Pass, next, by_turn}
use Rattle.std.specs.Prelude.{Err, Ok}

-- a final answer's turn moves on or stays
moved_line : (P : ℕ → Type 0) (a : Answer CertificateValues) (line n : ℕ) → P line → P (line + n) → P (moved (final a) line n).line
moved_line P (Ok v) line n stays moves = moves
moved_line P (Err r) line n stays moves = stays

module _ (version : Version) (node cert : List ℕ) where
  -- what is known of a record that turns on these files have left, where no check before lines fails
  abbrev pub Reached : (line : ℕ) → Type 0
  Reached line =
      before_lines version node cert ≡ accepted tt → (line ≤ lines_of cert) × ((i : ℕ) → i < line → line_passes version node cert i ≡ true)

  abbrev pub one_call : Answer CertificateValues
  one_call = verdict_of version node cert

  -- a final answer is the one call's
  abbrev pub AsOneCall : (Else : Type 0) → TurnAnswer → Type 0
  AsOneCall Else (final a) = a ≡ one_call
  AsOneCall Else unfinished = Else

  -- what the one call answers, by what is known of the lines
  if_refused : (number : ℕ) (place : Place) → before_lines version node cert ≡ refused number place → one_call ≡ refused number place
  unfolding verdict_of
  if_refused number place e = rw e

  if_fault : before_lines version node cert ≡ accepted tt → (i : ℕ) → i < lines_of cert → ((k : ℕ) → k < i → line_passes version node cert k ≡ true) → line_passes version node cert i ≡ false → one_call ≡ refused (line_fault version node cert i) (AtLine i)
  unfolding verdict_of lines_verdict
  if_fault o i l h e = rw (o, found (line_passes version node cert) (lines_of cert) i l h e)

  if_passed : before_lines version node cert ≡ accepted tt → ((k : ℕ) → k < lines_of cert → line_passes version node cert k ≡ true) → one_call ≡ parts_verdict version node cert
  unfolding verdict_of lines_verdict
  if_passed o h = rw (o, none (line_passes version node cert) (lines_of cert) h)

  -- lines below a line, and those from it on
  below_both : (line n : ℕ) → ((i : ℕ) → i < line → line_passes version node cert i ≡ true) → Pass version node cert line n → (i : ℕ) → i < line + n → line_passes version node cert i ≡ true
  below_both line n below pass i m = go (ltb i line) refl
    where
      go : (b : Bool) → ltb i line ≡ b → line_passes version node cert i ≡ true
      go true e = below i (ltb-true i line e)
      go false e = pass i (ltb-false i line e) m

  -- those before the first at fault
  before_fault : (line : ℕ) {n j : ℕ} → Lowest (next version node cert line) n j → Pass version node cert line j
  before_fault line {n} {j} low i l m =
      let here : line + (i - line) ≡ i = omega arith in
      subst (λ (k : ℕ). line_passes version node cert k ≡ true) here (low.before (i - line) (omega arith))

  pub reached_next : (line quota : ℕ) → Reached line → Reached (turn_of version node cert line quota).line
  reached_next line quota r =
      by_turn version node cert line quota (λ t. Reached t.line)
      (λ _ _ _. r)
      (λ _ _. r)
      (λ _ _ _ _. r)
      (λ _ l pass _. on l pass)
      (λ _ l pass _. moved_line Reached (parts_verdict version node cert) line (due_of cert line quota) r (on l pass))
    where
      on : line ≤ lines_of cert → Pass version node cert line (due_of cert line quota) → Reached (line + due_of cert line quota)
      on l pass o = (due_left cert line quota l, below_both line (due_of cert line quota) (r o).1 pass)

  pub as_one_call : (Unfinished : Type 0) (line quota : ℕ) → Reached line → (before_lines version node cert ≡ accepted tt → line + due_of cert line quota < lines_of cert → Unfinished) → AsOneCall Unfinished (turn_of version node cert line quota).answer
  as_one_call Unfinished line quota r if-left =
      by_turn version node cert line quota (λ t. AsOneCall Unfinished t.answer)
      (λ number place e. sym (if_refused number place e))
      (λ o l. absurd (omega (arith, l, (r o).0)))
      (λ o l j low. sym (if_fault o (line + j) (omega (arith, low.below, due_left cert line quota l)) (below_both line j (r o).1 (before_fault line low)) low.fails))
      (λ o _ _ left. if-left o left)
      (λ o l pass e. rw (moved_answer (parts_verdict version node cert) line (due_of cert line quota)) (sym (if_passed o (λ k m. below_both line (due_of cert line quota) (r o).1 pass k (omega (arith, e))))))
