use Rattle.heap.specs.Blocks.{entry_at}
use Rattle.heap.proofs.entries.entry_at.Goals as goal

pub returns : goal.returns
unfolding entry_at
returns c = cc
