-- Lists of the old call: "The list is any number of an instant's calls, none too, each with any inputs and any slice."
use Rattle.std.specs.Prelude.{ℕ, List, [], ◌∷◌, ◌++◌, ℤ, length, get_or}
use Rattle.answers.specs.Answer.{Answer, if_accepted}
use Rattle.session.specs.declared.Session.{Session}
use Rattle.session.specs.Instants.{answer_of, session_of, slice_of}

-- inputs and slice "as they stood at each call's entry"
pub record Call : Type 0 where
  pub inputs : List ℤ
  pub slice : List ℤ

abbrev pub answer_to : Session → Call → Answer (Unit {0})
answer_to s c = answer_of s c.inputs (length c.slice)

-- the record and the slice that a call leaves
abbrev pub after : Session → Call → Session
after s c = session_of s c.inputs (length c.slice)

abbrev pub slice_after : Session → Call → List ℤ
slice_after s c = slice_of s c.inputs c.slice

-- the record after a list of calls, "changed by these calls alone"
unfoldable pub after_all : Session → List Call → Session
after_all s [] = s
after_all s (c ∷ cs) = after_all (after s c) cs

-- an answered call: its inputs, and the values that it left in its slice
pub record Answered : Type 0 where
  pub inputs : List ℤ
  pub values : List ℤ

-- a call, where it is answered
abbrev pub told : Session → Call → Answered
told s c = record { inputs = c.inputs; values = slice_after s c }

-- the answered calls of a list, counted from 0
unfoldable pub answered : Session → List Call → List Answered
answered s [] = []
answered s (c ∷ cs) = if_accepted (answer_to s c) (told s c ∷ []) [] ++ answered (after s c) cs

-- answered call t
abbrev pub call : List Answered → (t : ℕ) → Answered
call done t = get_or done t (record { inputs = []; values = [] })
