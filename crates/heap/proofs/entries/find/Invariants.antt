-- The invariants and measures of `heap::entries::find`.
use Rattle.heap.proofs.Search.{Bracket}
use Rattle.heap.specs.Blocks.{entry_at}
use Prim.Native.Nat.{◌-◌}
use Rattle.heap.proofs.entries.find.Given as goal

abbrev pub invariant-loop-lo : goal.invariant-loop-lo
invariant-loop-lo l = Bracket (entry_at l.t) l.count l.s l.lo l.hi

abbrev pub decreases-loop-lo : goal.decreases-loop-lo
decreases-loop-lo l = l.hi - l.lo
