-- A line's fault as an answer.
use Rattle.std.specs.Prelude.{ℕ, zero, suc, Ok}
use Rattle.answers.specs.declared.Place.TheVariants.{Line}
use Rattle.answers.specs.Answer.{Answer, refused}

-- of line i: refused with the number of the rule that it breaks, where 0 stands for none
abbrev pub fault_at : (i number : ℕ) → Answer (Unit {0})
fault_at i zero = Ok tt
fault_at i (suc n) = refused (suc n) (Line i)
