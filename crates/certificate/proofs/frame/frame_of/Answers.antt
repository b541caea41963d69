-- `certificate::frame_of` meets its contract: field by field, the trailer's.
use Rattle.certificate.proofs.frame.frame_of.Goals as goal

pub returns : goal.returns
returns c = rw (c.block_at.ensures, c.start_of-start.ensures, c.requires.0)
