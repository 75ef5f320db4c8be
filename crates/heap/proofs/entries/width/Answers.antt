use Rattle.heap.specs.Blocks.{width_in}
use Rattle.heap.proofs.entries.width.Goals as goal

pub returns : goal.returns
unfolding width_in
returns c = c.size_of.ensures
