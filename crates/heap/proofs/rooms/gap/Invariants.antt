-- The invariants and measures of `heap::rooms::gap`.
use Rattle.heap.proofs.Marks.{Gapping}
use Prim.Native.Nat.{◌-◌}
use Rattle.heap.proofs.rooms.gap.Given as goal

abbrev pub invariant-loop-x : goal.invariant-loop-x
invariant-loop-x l = Gapping l.u l.low l.n l.x l.run

abbrev pub decreases-loop-x : goal.decreases-loop-x
decreases-loop-x l = l.size - l.x
