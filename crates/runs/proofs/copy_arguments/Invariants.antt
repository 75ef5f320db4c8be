-- The invariants and measures of `runs::copy_arguments`.
use Rattle.runs.specs.Runs.{Copied}
use Rattle.runs.proofs.copy_arguments.Given as goal

abbrev pub invariant-loop-i : goal.invariant-loop-i
invariant-loop-i l = Copied l.args l.kinds l.initial.p l.initial.t l.i l.p l.t
