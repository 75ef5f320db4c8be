-- The invariants and measures of `nodes::room::is_same`.
use Prim.Native.Nat.{◌≤◌}
use Rattle.nodes.proofs.Copies.{Compared}
use Rattle.nodes.proofs.room.is_same.Given as goal

abbrev pub invariant-loop-i : goal.invariant-loop-i
invariant-loop-i l = (l.i ≤ 64) × Compared l.room l.st l.«at» l.i l.same
