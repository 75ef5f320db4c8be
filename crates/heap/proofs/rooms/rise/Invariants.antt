-- The invariants and measures of `heap::rooms::rise`.
use Rattle.heap.specs.Rooms.{Risen}
use Prim.Native.Nat.{◌-◌}
use Rattle.heap.proofs.rooms.rise.Given as goal

abbrev pub invariant-loop-x : goal.invariant-loop-x
invariant-loop-x l = Risen l.u l.low l.top l.x

abbrev pub decreases-loop-x : goal.decreases-loop-x
decreases-loop-x l = l.top - l.x
