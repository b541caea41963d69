-- The measure is the number: its front is a tenth of it.
use Rattle.report.proofs.text.+put_number.Given as goal

abbrev pub decreases-put_number : goal.decreases-put_number
decreases-put_number l = l.n
