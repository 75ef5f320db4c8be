-- The invariants and measures of `runs::run_over`.
use Rattle.runs.proofs.Over.{Under}
use Rattle.runs.proofs.run_over.Given as goal

abbrev pub invariant-loop-code : goal.invariant-loop-code
invariant-loop-code l = Under l.file l.cap l.size l.initial.last l.initial.rest l.initial.p l.initial.t l.initial.f l.initial.cells l.initial.table l.shelf l.p l.t l.f l.cells l.table l.last l.rest

abbrev pub decreases-loop-code : goal.decreases-loop-code
decreases-loop-code l = l.rest
