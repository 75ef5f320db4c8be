use Rattle.settle.proofs.Visiting.{Looking}
use Prim.Native.Nat.{suc, ◌*◌, ◌-◌}
use Rattle.settle.proofs.+reach_visit.Given as goal

abbrev pub decreases-visit : goal.decreases-visit
decreases-visit l = 2 * l.left

abbrev pub decreases-reach : goal.decreases-reach
decreases-reach l = suc (2 * l.left)

abbrev pub invariant-visit-loop-k : goal.invariant-visit-loop-k
invariant-visit-loop-k l = Looking l.n l.own l.offsets l.b l.left l.initial.marks l.k l.fine l.marks l.need l.frames

abbrev pub decreases-visit-loop-k : goal.decreases-visit-loop-k
decreases-visit-loop-k l = l.n - l.k
