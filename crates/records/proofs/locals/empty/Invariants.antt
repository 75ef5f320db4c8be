-- The invariants and measures of `records::locals::empty`.
use Rattle.records.proofs.Edits.{Emptying}
use Rattle.records.proofs.locals.empty.Given as goal

abbrev pub invariant-loop-i : goal.invariant-loop-i
invariant-loop-i l = Emptying l.initial.st l.st l.i
