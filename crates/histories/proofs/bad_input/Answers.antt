-- `histories::bad_input` meets its contract: instant by instant, up to the first with a bad input.
use mathlib.Core.Path.{refl, sym, ◌∙◌, subst}
use native.Mathlib.Omega.{arith}
use Prim.Native.Nat.{ℕ}
use native.Mathlib.Numerals.{add-one}
use Rattle.node.specs.Layout.{records_of}
use Rattle.node.proofs.Notes.{accepted_sizes}
use Rattle.node.proofs.Outcomes.{is_accepted_is}
use Rattle.histories.specs.History.{bad_input}
use Rattle.histories.specs.Marks.{MarksBools}
use Rattle.histories.proofs.Parts.{within, below_few, none_more, found, found_stays, none_without}
use Rattle.histories.proofs.bad_input.Goals as goal

pub returns-then-m-eq0 : goal.returns-then-m-eq0
returns-then-m-eq0 c = sym (none_without _ _ (sym c.requires.2 ∙ c.if-m-eq0.true) _)

pub bools_of-bools-requires : goal.bools_of-bools-requires
bools_of-bools-requires c =
    let sizes = accepted_sizes _ (is_accepted_is _ c.requires.0) in
    (c.requires.1 ∙ sym sizes.records, omega (arith, c.requires.1, sizes.few))

pub loop-t-init : goal.loop-t-init
unfolding bad_input
loop-t-init c = refl

pub bad_at-requires : goal.bad_at-requires
bad_at-requires c =
    let file = c.args.file.now in
    let sizes = accepted_sizes file (is_accepted_is file c.requires.0) in
    let few = below_few file (records_of file) in (
      c.requires.0,
      c.requires.2,
      omega (arith, c.requires.2, sizes.records, sizes.few, few),
      within _ _ _ _ c.requires.3 c.loop-t-test.true,
      subst (λ (k : ℕ). MarksBools file k c.bools_of-bools.result) c.requires.1 c.bools_of-bools.ensures,
    )

pub returns-in-Some : goal.returns-in-Some
returns-in-Some c = sym (found_stays _ _ _ _ _ c.loop-t-test.true (found _ _ _ _ c.loop-t.invariant (sym c.bad_at.ensures ∙ c.in-Some.is)))

pub loop-t-preserved : goal.loop-t-preserved
loop-t-preserved c = rw add-one (none_more _ _ _ c.loop-t.invariant (sym c.bad_at.ensures ∙ c.in_default.is))
