-- The invariants and measures of `heap::pack::gather`.
use Rattle.heap.specs.Packs.{Gathered}
use lib.ListN.{length}
use Rattle.heap.proofs.pack.gather.Given as goal

abbrev pub invariant-loop-i : goal.invariant-loop-i
invariant-loop-i l = Gathered (length l.initial.s) l.d l.p l.initial.t l.t l.s l.i l.«at»
