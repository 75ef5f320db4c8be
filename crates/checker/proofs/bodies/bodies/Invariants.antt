-- The invariants and measures of `checker::bodies::bodies`.
use Prim.Native.Nat.{◌-◌}
use mathlib.Core.Path.{◌≡◌}
use lib.ListN.{length}
use Rattle.checker.proofs.Starting.{AtBody}
use Rattle.checker.proofs.bodies.bodies.Given as goal

abbrev pub invariant-loop-c : goal.invariant-loop-c
invariant-loop-c l = AtBody l.file l.c l.table l.initial.room l.initial.marks l.owner l.i l.room l.marks × (length l.st ≡ length l.initial.st)

abbrev pub decreases-loop-c : goal.decreases-loop-c
decreases-loop-c l = l.n - l.i
