-- The invariants and measures of `heap::entries::close`.
use Rattle.heap.proofs.Stores.{Closing}
use Rattle.heap.proofs.entries.close.Given as goal

abbrev pub invariant-loop-j : goal.invariant-loop-j
invariant-loop-j l = Closing l.t l.initial.t l.i l.j
