-- The invariants and measures of `control::calls::alike`.
use Prim.Native.Nat.{ℕ, ◌+◌}
use mathlib.Core.List.{List}
use mathlib.Core.Path.{◌≡◌}
use Rattle.rules.specs.Machine.{kinds_match}
use Rattle.rules.specs.Tables.{function_at, params_from}
use Rattle.rules.specs.ModuleFile.{edition, functions_in}
use Rattle.rules.specs.Stack.{slots_of}
use Rattle.control.proofs.calls.alike.Given as goal

abbrev pub invariant-loop-j : goal.invariant-loop-j
invariant-loop-j l = (p : List ℕ) → kinds_match (params_from (functions_in l.file) (function_at (edition l.file) l.k + 10) l.n) (slots_of p l.t (l.base + l.n)) ≡ kinds_match (params_from (functions_in l.file) (function_at (edition l.file) l.k + 10) l.j) (slots_of p l.t (l.base + l.j))
