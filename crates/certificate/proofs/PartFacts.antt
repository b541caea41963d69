-- The two parts, as their search for an empty line has them.
-- Assumes nothing.
use mathlib.Core.Path.{◌≡◌, sym, ◌∙◌, ap, ap₂}
use mathlib.Core.Bool.{Bool, not}
use mathlib.Core.List.{List}
use Prim.Native.Nat.{ℕ, ◌+◌}
use native.Mathlib.Nat.{sub-zero, add-sub_cancel_left}
use Rattle.answers.specs.Checks.{every}
use Rattle.constraints.specs.Layout.{Line, trailer_of, line_of}
use Rattle.rules.specs.Lines.{has_literals, has_empty}
use Rattle.rules.specs.Verdict.{base_of, step_of, lines_of}
use Rattle.rules.specs.Versions.{version2}
use Rattle.lines.specs.declared.frame.Frame.{Frame}
use Rattle.lines.specs.Frame.{frame_of, lines_at}
use Rattle.lines.proofs.LineFacts.{lines_are}

-- the lines that a frame counts are the file's
pub lines_counted : (cert : List ℕ) (f : Frame) (n property : ℕ) → f ≡ frame_of cert n property → f.base + f.step ≡ lines_of cert
lines_counted cert f n property e = ap (λ (g : Frame). g.base + g.step) e

-- n lines from `from` on have an empty one among them
abbrev empty_among : (ℕ → Line) → (from n : ℕ) → Bool
empty_among lines from n = not (every (has_literals lines from) n)

module _ (cert : List ℕ) (f : Frame) (e : f ≡ frame_of cert f.streams f.property) (node : List ℕ) where
  lines : lines_at cert f.lines ≡ line_of cert
  lines = lines_are cert f _ _ e

  pub empty_base : empty_among (lines_at cert f.lines) 0 f.base ≡ has_empty (line_of cert) (base_of version2 node cert)
  empty_base =
      ap₂ (λ (of : ℕ → Line) (g : Frame). empty_among of 0 g.base) lines e
      ∙ ap (empty_among (line_of cert) 0) (sym (sub-zero (trailer_of cert).base))

  pub empty_step : empty_among (lines_at cert f.lines) f.base f.step ≡ has_empty (line_of cert) (step_of node cert)
  empty_step =
      ap₂ (λ (of : ℕ → Line) (g : Frame). empty_among of g.base g.step) lines e
      ∙ ap (empty_among (line_of cert) (trailer_of cert).base) (sym (add-sub_cancel_left (trailer_of cert).base (trailer_of cert).step))
