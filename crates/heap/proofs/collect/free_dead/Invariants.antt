-- The invariants and measures of `heap::collect::free_dead`.
use Rattle.heap.proofs.Sweeps.{Sweeping}
use Rattle.rules.specs.Stack.{slots_of}
use Rattle.heap.proofs.collect.free_dead.Given as goal

abbrev pub invariant-loop-j : goal.invariant-loop-j
invariant-loop-j l = Sweeping l.size l.initial.q l.d l.initial.p l.initial.t (slots_of l.sp l.st l.h) l.q l.p l.t l.j
