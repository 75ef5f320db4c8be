-- The invariants and measures of `heap::rooms::fill`.
use Rattle.heap.specs.Rooms.{Filled}
use Rattle.heap.proofs.rooms.fill.Given as goal

abbrev pub invariant-loop-x : goal.invariant-loop-x
invariant-loop-x l = Filled l.u l.initial.u l.a l.x
