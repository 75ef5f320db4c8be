-- The invariants and measures of `settle::settle`.
use Rattle.settle.specs.Graph.{Ended}
use Rattle.settle.proofs.settle.Given as goal

abbrev pub invariant-loop-b : goal.invariant-loop-b
invariant-loop-b l = Ended l.n l.own l.offsets l.b l.marks l.need l.frames
