-- `certificate::start_of` meets its contract: the trailer is the file's, and what it counts lies within.
use Rattle.certificate.proofs.frame.start_of.Goals as goal

pub overflow_sub-result : goal.overflow_sub-result
overflow_sub-result c = rw c.requires.0 c.requires.1

pub returns : goal.returns
returns c = rw c.requires.0
