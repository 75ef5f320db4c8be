-- The proof of `access::shelf::keep`.
use Rattle.access.proofs.Over.{shelf_kept}
use Rattle.access.proofs.shelf.keep.Goals as goal

pub returns : goal.returns
returns c = shelf_kept c.args.g.now c.args.k c.requires
