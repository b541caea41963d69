-- What holds of turns, stated without the proofs.
use Rattle.std.specs.Prelude.{◌≡◌, ℕ, ◌+◌, ◌<◌, ◌≤◌, true, List, Err, Ok}
use Rattle.answers.specs.Answer.{Answer, accepted, TurnAnswer, final, unfinished}
use Rattle.answers.specs.declared.CertificateValues.{CertificateValues}
use Rattle.constraints.specs.Layout.{line_of}
use Rattle.rules.specs.Turns.{Turn, begun_line, most_lines, turn_of, line_after, checked_in}
use Rattle.rules.specs.Verdict.{lines_of, values_of, shape_passes, EquationKept, property_passes, join_passes, arithmetic_passes, cut_passes, verdict_of}
use Rattle.rules.specs.Versions.{Version}

-- line i "meets its rules": 16 and that of its kind
pub record LineRules (version : Version) (node cert : List ℕ) (i : ℕ) : Type 0 where
  pub shape : shape_passes node cert i ≡ true
  pub equation : (line_of cert i).head.kind ≡ 1 → EquationKept version node cert i
  pub property : (line_of cert i).head.kind ≡ 2 → property_passes version node cert i ≡ true
  pub join : (line_of cert i).head.kind ≡ 3 → join_passes cert i ≡ true
  pub arithmetic : (line_of cert i).head.kind ≡ 4 → arithmetic_passes cert i ≡ true
  pub cut : (line_of cert i).head.kind ≡ 5 → cut_passes cert i ≡ true

-- what a turn's answer says of its record and its number
abbrev pub TurnSays : (cert : List ℕ) → (line quota : ℕ) → Turn → TurnAnswer → Type 0
-- "While lines are left the answer is "unfinished"": the whole quota was checked
TurnSays cert line quota t unfinished = (t.checked ≡ quota) × (t.line < lines_of cert)
-- an accepted turn leaves no line
TurnSays cert line quota t (final (Ok values)) = (t.line ≡ lines_of cert) × (values ≡ values_of cert)
-- "a refused turn returns its record unmoved, with 0"
TurnSays cert line quota t (final (Err r)) = (t.line ≡ line) × (t.checked ≡ 0)

-- what holds of a turn, whatever its files, its quota and its record, a forged one too
pub record TurnKeeps (version : Version) (node cert : List ℕ) (line quota : ℕ) (t : Turn) : Type 0 where
  -- "the number checked, which is the distance that the record's line number moved"
  pub move : t.line ≡ line + t.checked
  pub within : t.checked ≤ quota
  -- "Each line that a turn moves past meets its rules in that turn's files."
  pub passed : (i : ℕ) → line ≤ i → i < t.line → LineRules version node cert i
  pub says : TurnSays cert line quota t t.answer

abbrev pub TurnsKeep : Version → Type 0
TurnsKeep version = (node cert : List ℕ) (line quota : ℕ) → TurnKeeps version node cert line quota (turn_of version node cert line quota)

-- "the final answer equals that of one call, and on acceptance the numbers add to all lines of both parts": of a begun record, after a turn for each
-- of any quotas, a turn with any quota
pub record TurnsAgree (version : Version) (node cert : List ℕ) (quotas : List ℕ) (quota : ℕ) (a : Answer CertificateValues) : Type 0 where
  pub as_one_call : a ≡ verdict_of version node cert
  pub adds : {v : CertificateValues} → a ≡ accepted v → checked_in version node cert begun_line quotas + (turn_of version node cert (line_after version node cert begun_line quotas) quota).checked ≡ lines_of cert

abbrev pub EveryTurnsAgree : Version → Type 0
EveryTurnsAgree version =
    (node cert : List ℕ) (quotas : List ℕ) (quota : ℕ) (a : Answer CertificateValues)
    → (turn_of version node cert (line_after version node cert begun_line quotas) quota).answer ≡ final a
    → TurnsAgree version node cert quotas quota a

-- one call is one turn with everything
abbrev pub OneTurn : Version → Type 0
OneTurn version =
    (node cert : List ℕ) (quota : ℕ) → most_lines ≤ quota → (turn_of version node cert begun_line quota).answer ≡ final (verdict_of version node cert)
