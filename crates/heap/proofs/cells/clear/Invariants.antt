-- The invariants and measures of `heap::cells::clear`.
use Rattle.heap.specs.Changes.{Cleared}
use Rattle.heap.proofs.cells.clear.Given as goal

abbrev pub invariant-loop-c : goal.invariant-loop-c
invariant-loop-c l = Cleared l.p l.initial.p l.a l.c
