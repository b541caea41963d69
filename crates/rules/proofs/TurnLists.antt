-- Turns in a row on the same files, from a begun record: the final answer is that of one call, and the numbers add up.
-- Assumes nothing.
use mathlib.Core.Path.{◌≡◌, ◌∙◌, ap, subst}
use mathlib.Core.List.{List, [], ◌∷◌}
use Prim.Native.Nat.{ℕ, ◌+◌, ◌≤◌}
use native.Mathlib.Nat.{add-zero}
use native.Mathlib.Omega.{arith}
use Rattle.answers.specs.Answer.{accepted, TurnAnswer, final, unfinished}
use Rattle.rules.specs.Turns.{begun_line, most_lines, turn_of, line_after, checked_in}
use Rattle.rules.specs.TurnTheorems.{TurnSays, EveryTurnsAgree, OneTurn}
use Rattle.rules.specs.Verdict.{lines_of, before_lines, verdict_of}
use Rattle.rules.specs.Versions.{Version}
use Rattle.rules.proofs.FileFacts.{file_facts, file_passed}
use Rattle.rules.proofs.Outcomes.{opens}
use Rattle.rules.proofs.TurnFacts.{turns_keep}
use Rattle.rules.proofs.Turns.{due_all}
use Rattle.rules.proofs.OneCall.{Reached, AsOneCall, reached_next, as_one_call}

module _ (version : Version) (node cert : List ℕ) where
  -- a begun record is one, and so is one after turns
  begun_reached : Reached version node cert begun_line
  begun_reached o = (omega arith, λ i l. absurd (omega arith))

  reached_after : (line : ℕ) (quotas : List ℕ) → Reached version node cert line → Reached version node cert (line_after version node cert line quotas)
  unfolding line_after
  reached_after line [] r = r
  reached_after line (quota ∷ quotas) r = reached_after (turn_of version node cert line quota).line quotas (reached_next version node cert line quota r)

  -- all numbers checked are the record's move
  moves_add : (line : ℕ) (quotas : List ℕ) → line + checked_in version node cert line quotas ≡ line_after version node cert line quotas
  unfolding line_after checked_in
  moves_add line [] = add-zero line
  moves_add line (quota ∷ quotas) =
      let t = turn_of version node cert line quota in
      let here = (turns_keep version node cert line quota).move in
      let rest = moves_add t.line quotas in
      omega (arith, here, rest)

pub every_turns_agree : (version : Version) → EveryTurnsAgree version
every_turns_agree version node cert quotas quota a e =
    let line = line_after version node cert begun_line quotas in
    let reached = reached_after version node cert begun_line quotas (begun_reached version node cert) in
    let t = turn_of version node cert line quota in
    let keeps = turns_keep version node cert line quota in
    let sum = moves_add version node cert begun_line quotas in
    record {
      as_one_call = subst (AsOneCall version node cert (Unit {0})) e (as_one_call version node cert (Unit {0}) line quota reached (λ _ _. tt));
      adds = λ {v} f.
          let ended : TurnSays cert line quota t (final (accepted v)) = subst (TurnSays cert line quota t) (e ∙ ap final f) keeps.says in
          omega (arith, sum, keeps.move, ended.0);
    }

-- what rule 11 leaves room for
pub few_lines : (version : Version) (node cert : List ℕ) → before_lines version node cert ≡ accepted tt → lines_of cert ≤ most_lines
few_lines version node cert o =
    let file = (opens version node cert o).file in
    let facts = file_facts version cert (file_passed version cert file.size file.fixed file.counts file.distance) in
    omega (arith, facts.room, facts.most)

pub one_turn : (version : Version) → OneTurn version
one_turn version node cert quota l =
    go (turn_of version node cert begun_line quota).answer
    (as_one_call version node cert ⊥ begun_line quota (begun_reached version node cert)
    (λ o left. omega (arith, l, left, due_all cert begun_line quota left, few_lines version node cert o)))
  where
    go : (a : TurnAnswer) → AsOneCall version node cert ⊥ a → a ≡ final (verdict_of version node cert)
    go (final a) same = ap final same
    go unfinished impossible = absurd impossible
