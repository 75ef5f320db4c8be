use Rattle.heap.proofs.Made.{starting}
use Rattle.heap.proofs.blocks.start.Goals as goal

pub returns : goal.returns
returns c = λ d. starting _ d _ _ _ _ c.requires.0 c.requires.1 c.requires.2 c.clear.ensures c.clear-2.ensures
