-- The invariants and measures of `runs::admits`.
use Prim.Native.Nat.{◌+◌}
use mathlib.Core.Path.{◌≡◌}
use Rattle.rules.specs.Stack.{slots_of}
use Rattle.rules.specs.Tables.{function_at, params_from}
use Rattle.rules.specs.ModuleFile.{edition, functions_in}
use Rattle.rules.specs.Answers.{declared}
use Rattle.runs.proofs.admits.Given as goal

abbrev pub invariant-loop-j : goal.invariant-loop-j
invariant-loop-j l = declared (params_from (functions_in l.file) (function_at (edition l.file) l.k + 10) l.n) (slots_of l.args l.kinds l.n) ≡ declared (params_from (functions_in l.file) (function_at (edition l.file) l.k + 10) l.j) (slots_of l.args l.kinds l.j)
