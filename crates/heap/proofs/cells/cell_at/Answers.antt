use Rattle.heap.specs.Blocks.{cell_in}
use Rattle.heap.proofs.cells.cell_at.Goals as goal

pub returns : goal.returns
unfolding cell_in
returns c = c.load64.ensures
