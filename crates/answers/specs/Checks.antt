-- "Checks run down the table, each over all its records first .. The first failure is given": how an answer is put
-- together from tests in a row.
use Rattle.std.specs.Prelude.{◌≡◌, ℕ, zero, suc, ◌<◌, Bool, true, false, ◌&&◌, Err, None, Ok, Option, Some}
use Rattle.answers.specs.declared.Place.{Place}
use Rattle.answers.specs.Answer.{Answer, refused}

-- one test: where it fails the answer is this refusal, else what the checks after it give
abbrev pub check : {A : Type 0} → Bool → (number : ℕ) → Place → Answer A → Answer A
check true number place rest = rest
check false number place rest = refused number place

-- where the checks before them pass, the answer is that of those after
abbrev pub and_then : {A B : Type 0} → Answer A → Answer B → Answer B
and_then (Ok a) rest = rest
and_then (Err r) rest = Err r

-- a test holds of each of the first n
unfoldable pub every : (ℕ → Bool) → (n : ℕ) → Bool
every ok zero = true
every ok (suc n) = every ok n && ok n

-- the lowest of the first n at which the test fails
abbrev pub or_else : Option ℕ → Bool → ℕ → Option ℕ
or_else (Some k) ok i = Some k
or_else None true i = None
or_else None false i = Some i

unfoldable pub lowest : (ℕ → Bool) → (n : ℕ) → Option ℕ
lowest ok zero = None
lowest ok (suc n) = or_else (lowest ok n) (ok n) n

-- i is the lowest of the first n at which the test fails
pub record Lowest (ok : ℕ → Bool) (n i : ℕ) : Type 0 where
  pub below : i < n
  pub fails : ok i ≡ false
  pub before : (k : ℕ) → k < i → ok k ≡ true

-- one test over all records: refused at the lowest at fault
abbrev pub check_all : {A : Type 0} → Option ℕ → (number : ℕ) → (ℕ → Place) → Answer A → Answer A
check_all (Some i) number place rest = refused number (place i)
check_all None number place rest = rest
