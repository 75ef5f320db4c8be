-- The invariants and measures of `heap::rooms::mark`.
use Rattle.heap.specs.Rooms.{Marked}
use Rattle.heap.specs.Blocks.{entry_at, width_in}
use Rattle.heap.proofs.rooms.mark.Given as goal

abbrev pub invariant-loop-i : goal.invariant-loop-i
invariant-loop-i l = Marked l.u (width_in l.d) (entry_at l.t) l.i
