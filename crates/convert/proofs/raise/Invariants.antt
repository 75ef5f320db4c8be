-- The invariant of `convert::raise`.
use Prim.Native.Nat.{◌*◌, ◌≤◌}
use mathlib.Core.List.{◌++◌}
use mathlib.Core.Path.{◌≡◌}
use lib.ListN.{length, drop}
use Rattle.rules.specs.Converting.{raised}
use Rattle.convert.proofs.raise.Given as goal

abbrev pub invariant-loop-i : goal.invariant-loop-i
invariant-loop-i l = (l.i ≤ l.n) × (l.out ≡ raised l.i l.table ++ drop (24 * l.i) l.initial.out) × (length l.out ≡ length l.initial.out)
