-- `certificate::opening` meets its contract: each way out is the first failing rule of the file, or what its
-- constraints give.
use mathlib.Core.Path.{◌≡◌, sym, ◌∙◌, ap}
use lib.ListN.{length}
use Rattle.answers.proofs.Checks.{handed_on, check_stopped, check_passed}
use Rattle.answers.specs.Answer.{answer_map}
use Rattle.node.proofs.FileRules.{long_enough}
use Rattle.constraints.specs.declared.layout.Trailer.{Trailer}
use Rattle.constraints.specs.Layout.{trailer_of}
use Rattle.constraints.specs.Rules.{fixed_ok, counts_ok, distance_ok}
use Rattle.rules.specs.Verdict.{file_verdict}
use Rattle.rules.specs.Versions.{version2}
use Rattle.rules.proofs.FileFacts.{file_passed}
use Rattle.certificate.specs.Opening.{opening_of}
use Rattle.certificate.proofs.reading.opening.Goals as goal

pub returns-in_err-check : goal.returns-in_err-check
unfolding file_verdict
returns-in_err-check c =
    handed_on _ c.from_residual.ensures
    ∙ ap (opening_of (trailer_of c.args.cert.now)) (check_stopped _ _ _ _ _ c.length_ok.ensures c.check.ensures c.in_err-check.was)

pub trailer_of-t-requires : goal.trailer_of-t-requires
trailer_of-t-requires c = long_enough _ (check_passed _ _ _ _ c.length_ok.ensures c.check.ensures c.in_ok-check.was)

pub returns-in_err-check-2 : goal.returns-in_err-check-2
unfolding file_verdict
returns-in_err-check-2 c =
    let fixed = c.fixed_ok.ensures ∙ ap (fixed_ok 2) c.trailer_of-t.ensures in
    rw (check_passed _ _ _ _ c.length_ok.ensures c.check.ensures c.in_ok-check.was)
    (handed_on _ c.from_residual-in_err-check-2.ensures
    ∙ ap (opening_of (trailer_of c.args.cert.now)) (check_stopped _ _ _ _ _ fixed c.check-2.ensures c.in_err-check-2.was))

pub returns-in_err-check-3 : goal.returns-in_err-check-3
unfolding file_verdict
returns-in_err-check-3 c =
    let fixed = c.fixed_ok.ensures ∙ ap (fixed_ok 2) c.trailer_of-t.ensures in
    let counts = c.counts_ok.ensures ∙ ap counts_ok c.trailer_of-t.ensures in
    rw (
      check_passed _ _ _ _ c.length_ok.ensures c.check.ensures c.in_ok-check.was,
      check_passed _ _ _ _ fixed c.check-2.ensures c.in_ok-check-2.was,
    )
    (handed_on _ c.from_residual-in_err-check-3.ensures
    ∙ ap (opening_of (trailer_of c.args.cert.now)) (check_stopped _ _ _ _ _ counts c.check-3.ensures c.in_err-check-3.was))

pub returns-in_err-check-4 : goal.returns-in_err-check-4
unfolding file_verdict
returns-in_err-check-4 c =
    let fixed = c.fixed_ok.ensures ∙ ap (fixed_ok 2) c.trailer_of-t.ensures in
    let counts = c.counts_ok.ensures ∙ ap counts_ok c.trailer_of-t.ensures in
    let distance = c.distance_ok.ensures ∙ ap (λ (t : Trailer). distance_ok t (length c.args.cert.now)) c.trailer_of-t.ensures in
    rw (
      check_passed _ _ _ _ c.length_ok.ensures c.check.ensures c.in_ok-check.was,
      check_passed _ _ _ _ fixed c.check-2.ensures c.in_ok-check-2.was,
      check_passed _ _ _ _ counts c.check-3.ensures c.in_ok-check-3.was,
    )
    (handed_on _ c.from_residual-in_err-check-4.ensures
    ∙ ap (opening_of (trailer_of c.args.cert.now)) (check_stopped _ _ _ _ _ distance c.check-4.ensures c.in_err-check-4.was))

pub constraints_opening-requires : goal.constraints_opening-requires
constraints_opening-requires c =
    let length_passes = check_passed _ _ _ _ c.length_ok.ensures c.check.ensures c.in_ok-check.was in
    let fixed = c.fixed_ok.ensures ∙ ap (fixed_ok 2) c.trailer_of-t.ensures in
    let counts = c.counts_ok.ensures ∙ ap counts_ok c.trailer_of-t.ensures in
    let distance = c.distance_ok.ensures ∙ ap (λ (t : Trailer). distance_ok t (length c.args.cert.now)) c.trailer_of-t.ensures in
    record {
      file_passed = record {
        trailer = c.trailer_of-t.ensures;
        file =
            file_passed version2 _ length_passes
            (check_passed _ _ _ _ fixed c.check-2.ensures c.in_ok-check-2.was)
            (check_passed _ _ _ _ counts c.check-3.ensures c.in_ok-check-3.was)
            (check_passed _ _ _ _ distance c.check-4.ensures c.in_ok-check-4.was);
      };
      by_index = c.requires;
    }

pub returns : goal.returns
unfolding file_verdict
returns c =
    let fixed = c.fixed_ok.ensures ∙ ap (fixed_ok 2) c.trailer_of-t.ensures in
    let counts = c.counts_ok.ensures ∙ ap counts_ok c.trailer_of-t.ensures in
    let distance = c.distance_ok.ensures ∙ ap (λ (t : Trailer). distance_ok t (length c.args.cert.now)) c.trailer_of-t.ensures in
    rw (
      check_passed _ _ _ _ c.length_ok.ensures c.check.ensures c.in_ok-check.was,
      check_passed _ _ _ _ fixed c.check-2.ensures c.in_ok-check-2.was,
      check_passed _ _ _ _ counts c.check-3.ensures c.in_ok-check-3.was,
      check_passed _ _ _ _ distance c.check-4.ensures c.in_ok-check-4.was,
    )
    c.constraints_opening.ensures
