-- What holds of one turn.
-- Assumes nothing.
use mathlib.Core.Path.{◌≡◌, refl, sym}
use mathlib.Core.Bool.{true}
use mathlib.Core.List.{List}
use Prim.Native.Nat.{ℕ, ◌+◌, ◌<◌, ◌≤◌}
use native.Mathlib.Nat.{add-zero}
use native.Mathlib.Omega.{arith}
use Rattle.answers.specs.declared.Place.{Place}
use Rattle.answers.specs.declared.Place.TheVariants.{Base, Step}
use Rattle.answers.specs.Answer.{Answer, accepted, refused, final, unfinished}
use Rattle.answers.specs.declared.CertificateValues.{CertificateValues}
use Rattle.answers.proofs.Checks.{by_check}
use Rattle.constraints.specs.Layout.{line_of}
use Rattle.rules.specs.Lines.{has_empty}
use Rattle.rules.specs.Turns.{Turn, due_of, moved, turn_of}
use Rattle.rules.specs.TurnTheorems.{LineRules, TurnKeeps, TurnsKeep}
use Rattle.rules.specs.Verdict.{base_of, step_of, lines_of, values_of, line_passes, parts_verdict}
use Rattle.rules.specs.Versions.{Version}
use Rattle.rules.proofs.LineFaults.{line_kept}
use Rattle.rules.proofs.Matches.{equation_means}
use Rattle.rules.proofs.Turns.{refused_at, due_asked, due_all, Pass, by_turn}

module _ (version : Version) (node cert : List ℕ) where
  -- after all lines the answer is 21, or accepted with the trailer's values
  by_parts : (P : Answer CertificateValues → Type 0) → ((place : Place) → P (refused 21 place)) → P (accepted (values_of cert)) → P (parts_verdict version node cert)
  unfolding parts_verdict
  by_parts P f g =
      by_check P (has_empty (line_of cert) (base_of version node cert)) 21 Base _ (λ _. f Base) λ _.
      by_check P (has_empty (line_of cert) (step_of node cert)) 21 Step _ (λ _. f Step) λ _. g

  -- the tests of a line that passes are its rules
  pub line_rules : (i : ℕ) → line_passes version node cert i ≡ true → LineRules version node cert i
  line_rules i e =
      let kept = line_kept version node cert i e in
      record {
        shape = kept.0;
        equation = λ k. equation_means version node cert i (kept.1.equation k);
        property = kept.1.property;
        join = kept.1.join;
        arithmetic = kept.1.arithmetic;
        cut = kept.1.cut;
      }

  module _ (line quota : ℕ) where
    abbrev n : ℕ
    n = due_of cert line quota

    abbrev Keeps : Turn → Type 0
    Keeps = TurnKeeps version node cert line quota

    refusal : (number : ℕ) (place : Place) → Keeps (refused_at line number place)
    refusal number place =
        record { move = sym (add-zero line); within = omega arith; passed = λ i l m. absurd (omega arith); says = (refl, refl) }

    rules : Pass version node cert line n → (i : ℕ) → line ≤ i → i < line + n → LineRules version node cert i
    rules pass i l m = line_rules i (pass i l m)

    -- fewer than are left are due: all that were asked for
    stopped : Pass version node cert line n → line + n < lines_of cert → Keeps (moved unfinished line n)
    stopped pass l = record { move = refl; within = due_asked cert line quota; passed = rules pass; says = (due_all cert line quota l, l) }

    abbrev Ends : Answer CertificateValues → Type 0
    Ends a = Keeps (moved (final a) line n)

    accepting : Pass version node cert line n → line + n ≡ lines_of cert → Ends (accepted (values_of cert))
    accepting pass e = record { move = refl; within = due_asked cert line quota; passed = rules pass; says = (e, refl) }

    ended : Pass version node cert line n → line + n ≡ lines_of cert → Ends (parts_verdict version node cert)
    ended pass e = by_parts Ends (refusal 21) (accepting pass e)

    keeps : Keeps (turn_of version node cert line quota)
    keeps =
        by_turn version node cert line quota Keeps (λ number place _. refusal number place) (λ _ _. refusal _ _)
        (λ _ _ j _. refusal _ _) (λ _ _. stopped) (λ _ _. ended)

pub turns_keep : (version : Version) → TurnsKeep version
turns_keep version node cert line quota = keeps version node cert line quota
