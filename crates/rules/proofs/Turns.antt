-- The ways that a turn goes.
-- Assumes nothing.
use mathlib.Core.Path.{◌≡◌, refl, ◌∙◌, ap, subst}
use mathlib.Core.Bool.{Bool, true, false, cond}
use mathlib.Core.List.{List}
use Prim.Native.Nat.{ℕ, ◌+◌, ◌-◌, ◌<◌, ◌≤◌}
use native.Mathlib.Nat.{min-le_left, min-le_right, min-eq_left, min-eq_right}
use native.Mathlib.Omega.{arith}
use borrow.Author.Tests.{leb-true, leb-false, ltb-true, ltb-false, lt-ltb, le-ltb, lt-leb, le-leb}
use lib.Dec.{leb, ltb}
use Rattle.answers.specs.declared.Place.{Place}
use Rattle.answers.specs.declared.Place.TheVariants.{File, Line as AtLine}
use Rattle.answers.specs.Answer.{Answer, accepted, refused, TurnAnswer, final, unfinished}
use Rattle.answers.specs.declared.CertificateValues.{CertificateValues}
use Rattle.answers.specs.Checks.{lowest, Lowest, check}
use Rattle.answers.proofs.Lowest.{none, found, all, first}
use Rattle.rules.specs.Turns.{Turn, due_of, counted_from, next_lines, after_lines, then_turn, lines_turn, turn_answer_of, moved, turn_of}
use Rattle.rules.specs.Verdict.{lines_of, line_fault, line_passes, check_lines, parts_verdict, before_lines}
use Rattle.rules.specs.Versions.{Version}
use Rattle.std.specs.Prelude.{Err, None, Ok, Option, Some}

-- what a refused turn gives
abbrev pub refused_at : (line number : ℕ) → Place → Turn
refused_at line number place = record { answer = final (refused number place); line = line; checked = 0 }

pub moved_answer : (a : Answer CertificateValues) (line n : ℕ) → (moved (final a) line n).answer ≡ final a
moved_answer (Ok v) line n = refl
moved_answer (Err r) line n = refl

-- no more are due than are asked for, nor than are left
pub due_asked : (cert : List ℕ) (line quota : ℕ) → due_of cert line quota ≤ quota
due_asked cert line quota = min-le_left quota (lines_of cert - line)

pub due_left : (cert : List ℕ) (line quota : ℕ) → line ≤ lines_of cert → line + due_of cert line quota ≤ lines_of cert
due_left cert line quota l = omega (arith, min-le_right quota (lines_of cert - line))

-- where lines are left, all that were asked for were due
pub due_all : (cert : List ℕ) (line quota : ℕ) → line + due_of cert line quota < lines_of cert → due_of cert line quota ≡ quota
due_all cert line quota l = go (leb quota (lines_of cert - line)) refl
  where
    go : (b : Bool) → leb quota (lines_of cert - line) ≡ b → due_of cert line quota ≡ quota
    go true e = min-eq_left (leb-true quota (lines_of cert - line) e)
    go false e =
        let more : lines_of cert - line ≤ quota = omega (arith, leb-false quota (lines_of cert - line) e) in
        absurd (omega (arith, l, min-eq_right more))

module _ (version : Version) (node cert : List ℕ) where
  -- n lines from a line on keep their rules
  abbrev pub Pass : (line n : ℕ) → Type 0
  Pass line n = (i : ℕ) → line ≤ i → i < line + n → line_passes version node cert i ≡ true

  -- line j of those from a line on
  abbrev pub next : (line j : ℕ) → Bool
  next line j = line_passes version node cert (line + j)

  -- what the checks of n lines give: a loop's proof cites these two
  pub next_passed : (line n : ℕ) → Pass line n → next_lines version node cert line n ≡ accepted tt
  unfolding next_lines
  next_passed line n pass = rw (none (next line) n (λ j l. pass (line + j) (omega arith) (omega arith)))

  pub next_refused : (line n i : ℕ) → line ≤ i → i < line + n → ((k : ℕ) → line ≤ k → k < i → line_passes version node cert k ≡ true) → line_passes version node cert i ≡ false → next_lines version node cert line n ≡ refused (line_fault version node cert i) (AtLine i)
  unfolding next_lines
  next_refused line n i least most pass e =
      let here : line + (i - line) ≡ i = omega arith in
      rw (found (next line) n (i - line) (omega arith) (λ j l. pass (line + j) (omega arith) (omega arith)) (ap (line_passes version node cert) here ∙ e), here)

  -- the definitions by what is known: the code's proofs cite these
  pub after_left : (line : ℕ) → line < lines_of cert → after_lines version node cert line ≡ unfinished
  unfolding after_lines
  after_left line l = rw (lt-ltb line (lines_of cert) l)

  pub after_none : (line : ℕ) → lines_of cert ≤ line → after_lines version node cert line ≡ final (parts_verdict version node cert)
  unfolding after_lines
  after_none line l = rw (le-ltb line (lines_of cert) l)

  pub turn_past : (line quota : ℕ) → lines_of cert < line → lines_turn version node cert line quota ≡ final (refused 55 File)
  unfolding lines_turn
  turn_past line quota l = rw (lt-leb line (lines_of cert) l)

  pub turn_within : (line quota : ℕ) → line ≤ lines_of cert → lines_turn version node cert line quota ≡ then_turn (next_lines version node cert line (due_of cert line quota)) (after_lines version node cert (line + due_of cert line quota))
  unfolding lines_turn
  turn_within line quota l = rw (le-leb line (lines_of cert) l)

  all_pass : (line n : ℕ) → lowest (next line) n ≡ None → Pass line n
  all_pass line n e i l m =
      let here : line + (i - line) ≡ i = omega arith in
      subst (λ (k : ℕ). line_passes version node cert k ≡ true) here (all (next line) n e (i - line) (omega arith))

  module _ (line quota : ℕ) where
    abbrev n : ℕ
    n = due_of cert line quota

    abbrev Opened : Type 0
    Opened = before_lines version node cert ≡ accepted tt

    -- a turn is refused before lines, by 55 or at its first line at fault; or all its lines keep their rules, and some are left, or none
    module _ (P : Turn → Type 0)
        (before : (number : ℕ) (place : Place) → before_lines version node cert ≡ refused number place → P (refused_at line number place))
        (past : Opened → lines_of cert < line → P (refused_at line 55 File))
        (fault : Opened → line ≤ lines_of cert → (j : ℕ) → Lowest (next line) n j → P (refused_at line (line_fault version node cert (line + j)) (AtLine (line + j))))
        (stops : Opened → line ≤ lines_of cert → Pass line n → line + n < lines_of cert → P (moved unfinished line n))
        (ends : Opened → line ≤ lines_of cert → Pass line n → line + n ≡ lines_of cert → P (moved (final (parts_verdict version node cert)) line n)) where
      abbrev Q : TurnAnswer → Type 0
      Q a = P (moved a line n)

      after : Opened → line ≤ lines_of cert → Pass line n → Q (after_lines version node cert (line + n))
      unfolding after_lines
      after o l pass = go (ltb (line + n) (lines_of cert)) refl
        where
          go : (b : Bool) → ltb (line + n) (lines_of cert) ≡ b → Q (cond b unfinished (final (parts_verdict version node cert)))
          go true e = stops o l pass (ltb-true (line + n) (lines_of cert) e)
          go false e = ends o l pass (omega (arith, ltb-false (line + n) (lines_of cert) e, due_left cert line quota l))

      of_lines : Opened → line ≤ lines_of cert → Q (then_turn (next_lines version node cert line n) (after_lines version node cert (line + n)))
      unfolding next_lines
      of_lines o l = go (lowest (next line) n) refl
        where
          go : (f : Option ℕ) → lowest (next line) n ≡ f → Q (then_turn (check_lines (counted_from line f) (line_fault version node cert) (accepted tt)) (after_lines version node cert (line + n)))
          go (Some j) e = fault o l j (first (next line) n j e)
          go None e = after o l (all_pass line n e)

      of_turn : Opened → Q (lines_turn version node cert line quota)
      unfolding lines_turn
      of_turn o = go (leb line (lines_of cert)) refl
        where
          go : (b : Bool) → leb line (lines_of cert) ≡ b → Q (then_turn (check b 55 File (next_lines version node cert line n)) (after_lines version node cert (line + n)))
          go true e = of_lines o (leb-true line (lines_of cert) e)
          go false e = past o (leb-false line (lines_of cert) e)

      pub by_turn : P (turn_of version node cert line quota)
      unfolding turn_of turn_answer_of
      by_turn = go (before_lines version node cert) refl
        where
          go : (a : Answer (Unit {0})) → before_lines version node cert ≡ a → Q (then_turn a (lines_turn version node cert line quota))
          go (Ok v) e = of_turn e
          go (Err r) e = before r.number r.place e
