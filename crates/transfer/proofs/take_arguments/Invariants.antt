-- The invariants and measures of `transfer::take_arguments`.
use Prim.Native.Nat.{◌+◌, ◌≤◌}
use Rattle.rules.specs.Tables.{function_at}
use Rattle.rules.specs.ModuleFile.{edition, functions_in}
use Rattle.transfer.proofs.Arguments.{Left}
use Rattle.transfer.proofs.take_arguments.Given as goal

abbrev pub invariant-loop-j : goal.invariant-loop-j
invariant-loop-j l = (l.j ≤ l.n) × Left (functions_in l.file) (function_at (edition l.file) l.k + 10) l.n l.initial.st l.j l.st
