use Rattle.runs.proofs.Final.{emptied}
use Rattle.runs.proofs.clear_heap.Goals as goal

pub returns : goal.returns
returns c = emptied _ _ _ _ _ c.heap_capacity-size.ensures c.start.ensures
