-- The invariants and measures of `machine::run_from`.
use Rattle.machine.proofs.Turns.{Going}
use Rattle.machine.proofs.run_from.Given as goal

abbrev pub invariant-loop-key : goal.invariant-loop-key
invariant-loop-key l = Going l.file l.c l.cap l.allowance l.initial.p l.initial.t l.initial.f l.initial.r l.p l.t l.f l.r l.rest

abbrev pub decreases-loop-key : goal.decreases-loop-key
decreases-loop-key l = l.rest
