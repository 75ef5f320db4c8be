-- The invariants and measures of `rows::types_of`.
use Rattle.rows.specs.Rows.{param_types}
use Rattle.rules.specs.Mapping.{takes_numbers}
use Rattle.rules.specs.ModuleFile.{edition, functions_in}
use Rattle.rules.specs.Tables.{function_at}
use Rattle.rules.specs.Bytes.{byte}
use lib.ListN.{length, get_or}
use mathlib.Core.Path.{◌≡◌}
use Prim.Native.Nat.{ℕ, ◌+◌, ◌≤◌, ◌<◌}
use Rattle.rows.proofs.types_of.Given as goal

abbrev pub invariant-loop-j : goal.invariant-loop-j
invariant-loop-j l = (length l.kinds ≡ length l.initial.kinds) × (takes_numbers (param_types l.file l.k l.n) ≡ takes_numbers (param_types l.file l.k l.j)) × ((i : ℕ) → l.j ≤ i → i < l.n → get_or l.kinds i 0 ≡ byte (functions_in l.file) (function_at (edition l.file) l.k + 10 + i))
