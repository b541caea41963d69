-- The words of a line in ASCII, each with the spaces that stand beside it.
use Rattle.std.specs.Prelude.{ℕ, List, [], ◌∷◌}

-- `accepted depth `
abbrev pub accepted_depth : List ℕ
accepted_depth = 97 ∷ 99 ∷ 99 ∷ 101 ∷ 112 ∷ 116 ∷ 101 ∷ 100 ∷ 32 ∷ 100 ∷ 101 ∷ 112 ∷ 116 ∷ 104 ∷ 32 ∷ []

-- ` base `
abbrev pub base_count : List ℕ
base_count = 32 ∷ 98 ∷ 97 ∷ 115 ∷ 101 ∷ 32 ∷ []

-- ` step `
abbrev pub step_count : List ℕ
step_count = 32 ∷ 115 ∷ 116 ∷ 101 ∷ 112 ∷ 32 ∷ []

-- `refused `
abbrev pub refused_rule : List ℕ
refused_rule = 114 ∷ 101 ∷ 102 ∷ 117 ∷ 115 ∷ 101 ∷ 100 ∷ 32 ∷ []

-- ` file`
abbrev pub at_file : List ℕ
at_file = 32 ∷ 102 ∷ 105 ∷ 108 ∷ 101 ∷ []

-- ` record `
abbrev pub at_record : List ℕ
at_record = 32 ∷ 114 ∷ 101 ∷ 99 ∷ 111 ∷ 114 ∷ 100 ∷ 32 ∷ []

-- ` constraint `
abbrev pub at_constraint : List ℕ
at_constraint = 32 ∷ 99 ∷ 111 ∷ 110 ∷ 115 ∷ 116 ∷ 114 ∷ 97 ∷ 105 ∷ 110 ∷ 116 ∷ 32 ∷ []

-- ` line `
abbrev pub at_line : List ℕ
at_line = 32 ∷ 108 ∷ 105 ∷ 110 ∷ 101 ∷ 32 ∷ []

-- ` base`
abbrev pub at_base : List ℕ
at_base = 32 ∷ 98 ∷ 97 ∷ 115 ∷ 101 ∷ []

-- ` step`
abbrev pub at_step : List ℕ
at_step = 32 ∷ 115 ∷ 116 ∷ 101 ∷ 112 ∷ []

-- `answered`
abbrev pub answered_word : List ℕ
answered_word = 97 ∷ 110 ∷ 115 ∷ 119 ∷ 101 ∷ 114 ∷ 101 ∷ 100 ∷ []

-- ` kept` and the end of the line
abbrev pub kept_end : List ℕ
kept_end = 32 ∷ 107 ∷ 101 ∷ 112 ∷ 116 ∷ 10 ∷ []

-- ` CHANGED` and the end of the line
abbrev pub changed_end : List ℕ
changed_end = 32 ∷ 67 ∷ 72 ∷ 65 ∷ 78 ∷ 71 ∷ 69 ∷ 68 ∷ 10 ∷ []

-- what ends a line, 0x0A
abbrev pub newline : List ℕ
newline = 10 ∷ []
