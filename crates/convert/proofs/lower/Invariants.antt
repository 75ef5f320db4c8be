-- The invariant of `convert::lower`.
use Prim.Native.Nat.{◌*◌, ◌≤◌}
use mathlib.Core.List.{◌++◌}
use mathlib.Core.Path.{◌≡◌}
use lib.ListN.{length, drop}
use Rattle.rules.specs.Converting.{lowered, profiled}
use Rattle.rules.specs.Bytes.{some_below}
use Rattle.convert.proofs.lower.Given as goal

abbrev pub invariant-loop-i : goal.invariant-loop-i
invariant-loop-i l = (l.i ≤ l.n) × (l.out ≡ lowered l.i l.table ++ drop (20 * l.i) l.initial.out) × (length l.out ≡ length l.initial.out) × (l.found ≡ some_below l.i (profiled l.table))
