-- The invariants and measures of `heap::pack::copy`.
use Rattle.heap.specs.Packs.{Copied}
use Rattle.heap.proofs.pack.copy.Given as goal

abbrev pub invariant-loop-i : goal.invariant-loop-i
invariant-loop-i l = Copied l.p l.initial.p l.a l.q l.b l.i
