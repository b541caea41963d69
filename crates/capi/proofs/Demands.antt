-- Demands 2 and 3 of the exported calls, and listed nodes, from what is proved of the calls below them.
-- Assumes nothing.
use mathlib.Core.Path.{◌≡◌, refl, ap}
use mathlib.Core.Logic.{◌⊎◌, inl, inr}
use mathlib.Core.Bool.{true, false≢true}
use Prim.Native.Nat.{ℕ}
use native.Mathlib.Omega.{arith}
use lib.IntN.{ℤ}
use Rattle.answers.specs.Answer.{Answer, accepted, is_accepted, TurnAnswer, final, unfinished}
use Rattle.answers.specs.declared.CertificateValues.{CertificateValues}
use Rattle.node.specs.Equations.{equation_at}
use Rattle.node.specs.Verdict.{verdict_of as node_verdict}
use Rattle.rules.specs.Turns.{begun_line, turn_of, line_after}
use Rattle.rules.specs.Verdict.{verdict_of}
use Rattle.rules.specs.Versions.{version2}
use Rattle.rules.proofs.TurnLists.{every_turns_agree}
use Rattle.session.proofs.Sessions.{sessions_exact}
use Rattle.node.proofs.Outcomes.{keeps_accepted}
use Rattle.streams.specs.Solutions.{Streams}
use Rattle.histories.specs.Theorems.{SolvesHistory}
use Rattle.look_up.specs.Visited.{VisitedInside, VisitedOutside}
use Rattle.look_up.specs.LookUp.{look_up_of}
use Rattle.look_up.specs.Theorems.{Asked}
use Rattle.look_up.proofs.LookUps.{look_ups_exact}
use Rattle.ranges.specs.Listing.{listing_of}
use Rattle.ranges.proofs.Outcomes.{listed_keeps}
use Rattle.ranges.proofs.Sessions.{sessions_inside}
use Rattle.soundness.proofs.Demands.{demand_3, turns_demand_3}
use Rattle.capi.specs.Answers.{told_node, told_certificate, told_answer, told_turn, told_look_up}
use Rattle.capi.specs.Theorems.{ExportedSessionsExact, ExportedDemand3, ExportedTurnsDemand3, ExportedSessionsInside, ExportedLookUps}
use Rattle.capi.proofs.Zero.{zero}
use Rattle.std.specs.Prelude.{Err, Ok}

accepted_with : {A : Type 0} (a : Answer A) → is_accepted a ≡ true → (v : A) × (a ≡ accepted v)
accepted_with (Ok v) e = (v, refl)
accepted_with (Err r) e = absurd (false≢true e)

pub exported_sessions_exact : ExportedSessionsExact
exported_sessions_exact file told =
    let node = accepted_with (node_verdict file) (zero.node file told) in
    sessions_exact file node.0 node.1

pub exported_demand_3 : ExportedDemand3
unfolding told_node
exported_demand_3 node cert told before events =
    let values = accepted_with (verdict_of version2 node cert) (zero.certificate node cert told) in
    let demanded = demand_3 node cert values.0 values.1 before events in
    (ap (λ a. (told_node a).number) demanded.begins, demanded)

-- a final answer is told as the one call's
told_final : (a : TurnAnswer) (verdict : Answer CertificateValues) → ((b : Answer CertificateValues) → a ≡ final b → b ≡ verdict) → ((told_answer a).number ≡ 256 → ⊥) → told_answer a ≡ told_certificate verdict
unfolding told_answer
told_final (final b) verdict same left = ap told_certificate (same b refl)
told_final unfinished verdict same left = absurd (left refl)

pub exported_turns_demand_3 : ExportedTurnsDemand3
unfolding told_turn told_node
exported_turns_demand_3 node cert quotas quota =
    let line = line_after version2 node cert begun_line quotas in
    let agree = every_turns_agree version2 node cert quotas quota in
    record {
      final_answer = told_final (turn_of version2 node cert line quota).answer (verdict_of version2 node cert) (λ a e. (agree a e).as_one_call);
      demanded = λ told.
          let values = zero.turn node cert line quota told in (
            (agree (accepted values.0) values.1).adds refl,
            λ before events.
                let demanded = turns_demand_3 node cert quotas quota values.0 values.1 before events in
                (ap (λ a. (told_node a).number) demanded.begins, demanded),
          );
    }

pub exported_sessions_inside : ExportedSessionsInside
unfolding told_node
exported_sessions_inside file table told before events =
    let listed = accepted_with (listing_of file table) (zero.ranges file table told) in
    let node = keeps_accepted file (listed_keeps file table listed.1).node in
    (ap (λ a. (told_node a).number) node, sessions_inside file table listed.1 before events)

pub exported_look_ups : ExportedLookUps
unfolding told_look_up told_node
exported_look_ups file count inputs stream instant told =
    let found = accepted_with (look_up_of file count inputs stream instant) (zero.look_up file count inputs stream instant told) in
    let asked = look_ups_exact.asked file count inputs stream instant found.0 found.1 in
    (ap (λ a. (told_node a).number) asked.accepts, asked, look_ups_exact.looks_up file count inputs stream instant asked, λ v solves. go v solves found.0 found.1 asked ((look_ups_exact.looks_up file count inputs stream instant asked).either v solves))
  where
    go : (v : Streams) → SolvesHistory file count inputs v → (x : ℤ) → look_up_of file count inputs stream instant ≡ accepted x → Asked file count inputs stream instant → VisitedInside (equation_at file) v instant stream ⊎ VisitedOutside (equation_at file) v instant stream → (told_look_up (look_up_of file count inputs stream instant)).value ≡ v instant stream
    go v solves x e asked (inl all) = ap (λ a. (told_look_up a).value) ((look_ups_exact.looks_up file count inputs stream instant asked).gives v solves all)
    go v solves x e asked (inr some) = absurd (let r = (look_ups_exact.looks_up file count inputs stream instant asked).refuses v solves some in let z : ◌≡◌ {A = ℕ} 0 1 = cc in omega arith)
