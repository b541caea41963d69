-- `session::copy_from` meets its contract: what is copied is the file from the offset on.
use native.Mathlib.Omega.{arith}
use lib.ListN.{drop, length-drop}
use Rattle.session.proofs.Filled.{copied}
use Rattle.session.proofs.beginning.copy_from.Goals as goal

pub returns : goal.returns
returns c =
    let size = length-drop c.args.start c.args.file.now in
    copied 1040 0 (drop c.args.start c.args.file.now) _ _ (omega (arith, size)) c.copy_from_slice.ensures.after
