-- The invariants and measures of `desk::needs::put_functions`.
use Rattle.desk.specs.Needs.{function_lines}
use Rattle.desk.specs.Text.{Adds}
use mathlib.Core.Path.{◌≡◌}
use lib.ListN.{length}
use Prim.Native.Nat.{◌≤◌, ◌*◌}
use Rattle.desk.proofs.needs.put_functions.Given as goal

abbrev pub invariant-loop-k : goal.invariant-loop-k
invariant-loop-k l = (l.k ≤ l.n) × (length l.out ≡ length l.initial.out) × Adds (63 * l.k) l.initial.out l.«at» (function_lines l.report l.k) l.out l.e
