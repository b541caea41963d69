-- `certificate::constraints_opening` meets its contract: the lowest constraint at fault, or none.
use mathlib.Core.Path.{◌≡◌, sym, ◌∙◌, ap}
use Rattle.answers.specs.Checks.{lowest}
use Rattle.std.specs.Prelude.{Ok}
use Rattle.constraints.specs.Layout.{trailer_of}
use Rattle.rules.specs.Verdict.{constraint_passes, constraints_verdict}
use Rattle.certificate.proofs.Openings.{start_room, constraints_room, constraints_searched}
use Rattle.certificate.proofs.reading.constraints_opening.Goals as goal

pub start_of-start-requires : goal.start_of-start-requires
start_of-start-requires c = start_room _ _ c.requires.file_passed

pub first_bad-requires : goal.first_bad-requires
first_bad-requires c = constraints_room _ _ c.requires.file_passed _ c.start_of-start.ensures

pub returns-in-Some : goal.returns-in-Some
unfolding constraints_verdict
returns-in-Some c =
    let found_is : (let a = c.args in lowest (constraint_passes a.node.now a.cert.now) (trailer_of a.cert.now).constraints ≡ c.first_bad.result) = constraints_searched _ _ c.requires.file_passed c.args.node.now c.args.types.now c.requires.by_index _ c.start_of-start.ensures ∙ sym c.first_bad.ensures in
    rw (found_is ∙ c.in-Some.is) c.refused.ensures

pub returns-in-None : goal.returns-in-None
unfolding constraints_verdict
returns-in-None c =
    let found_is : (let a = c.args in lowest (constraint_passes a.node.now a.cert.now) (trailer_of a.cert.now).constraints ≡ c.first_bad.result) = constraints_searched _ _ c.requires.file_passed c.args.node.now c.args.types.now c.requires.by_index _ c.start_of-start.ensures ∙ sym c.first_bad.ensures in
    rw (found_is ∙ c.in-None.is) (ap Ok c.requires.file_passed.trailer)
