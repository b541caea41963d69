-- The lines that the papers give, computed: `accepted depth 1 base 12 step 12` and `refused 19 line 4`; and that of the two bands' certificate,
-- "redone at both base instants", which "prints base 23 and step 12".
-- Assumes nothing.
use mathlib.Core.Path.{◌≡◌, refl}
use mathlib.Core.List.{[], ◌∷◌}
use Rattle.answers.specs.declared.Place.TheVariants.{Line}
use Rattle.answers.specs.Answer.{accepted, refused}
use Rattle.report.specs.Decimal.{digits_within, decimal}
use Rattle.report.specs.Line.{line_of}

pub accepted_line : line_of (accepted (record { depth = 1; base = 12; step = 12 }))
    ≡ 97 ∷ 99 ∷ 99 ∷ 101 ∷ 112 ∷ 116 ∷ 101 ∷ 100 ∷ 32 ∷ 100 ∷ 101 ∷ 112 ∷ 116 ∷ 104 ∷ 32 ∷ 49 ∷ 32 ∷ 98 ∷ 97 ∷ 115 ∷ 101 ∷ 32 ∷ 49 ∷ 50 ∷ 32 ∷ 115 ∷ 116 ∷ 101 ∷ 112 ∷ 32 ∷ 49 ∷ 50 ∷ 10 ∷ []
unfolding line_of decimal digits_within
accepted_line = refl

pub redone_line : line_of (accepted (record { depth = 1; base = 23; step = 12 }))
    ≡ 97 ∷ 99 ∷ 99 ∷ 101 ∷ 112 ∷ 116 ∷ 101 ∷ 100 ∷ 32 ∷ 100 ∷ 101 ∷ 112 ∷ 116 ∷ 104 ∷ 32 ∷ 49 ∷ 32 ∷ 98 ∷ 97 ∷ 115 ∷ 101 ∷ 32 ∷ 50 ∷ 51 ∷ 32 ∷ 115 ∷ 116 ∷ 101 ∷ 112 ∷ 32 ∷ 49 ∷ 50 ∷ 10 ∷ []
unfolding line_of decimal digits_within
redone_line = refl

pub refused_line : line_of (refused 19 (Line 4)) ≡ 114 ∷ 101 ∷ 102 ∷ 117 ∷ 115 ∷ 101 ∷ 100 ∷ 32 ∷ 49 ∷ 57 ∷ 32 ∷ 108 ∷ 105 ∷ 110 ∷ 101 ∷ 32 ∷ 52 ∷ 10 ∷ []
unfolding line_of decimal digits_within
refused_line = refl
