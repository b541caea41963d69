-- The starred cases on certificates, as they stood before version 2: one list, and one theorem over the list (proofs/Cases.antt).
use Rattle.std.specs.Prelude.{List, [], ◌∷◌, pos, neg_ℤ, Ok}
use Rattle.answers.specs.declared.Place.TheVariants.{File, Line as AtLine, Base}
use Rattle.answers.specs.Answer.{accepted, refused}
use Rattle.node.specs.Reads.{All}
use Rattle.rules.specs.Versions.{version1}
use Rattle.soundness.specs.Starred.{Case, checks, true_and_ints, opposites, constant_true, of_depth, two_bands, bands_whole, step_alone, Holds}

unfoldable pub archived_cases : List Case
archived_cases =
    -- "*Opposites "u − v at most −1" and "v − u at most 0" pass as kind 4, multipliers 1 and 1; *with both bounds 0 it is 20."
    checks version1 true_and_ints (opposites version1 (neg_ℤ (pos 1)) (pos 0)) (Ok (record { depth = 1; base = 4; step = 3 }))
    ∷ checks version1 true_and_ints (opposites version1 (pos 0) (pos 0)) (refused 20 (AtLine 3))
    -- "*Depth 8 passes, *9 is 13."
    ∷ checks version1 constant_true (of_depth version1 8) (accepted (record { depth = 8; base = 17; step = 3 }))
    ∷ checks version1 constant_true (of_depth version1 9) (refused 13 File)
    -- "`accepted depth 1 base 12 step 12`"
    ∷ checks version1 two_bands (bands_whole version1) (accepted (record { depth = 1; base = 12; step = 12 }))
    -- "*No base lines: 21.", though the step's lines are those of an accepted certificate
    ∷ checks version1 two_bands (step_alone version1) (refused 21 Base)
    ∷ []

abbrev pub ArchivedStarred : Type 0
ArchivedStarred = All Holds archived_cases
