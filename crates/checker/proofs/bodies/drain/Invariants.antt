-- The invariants and measures of `checker::bodies::drain`.
use Rattle.checker.proofs.Draining.{Draining}
use Rattle.nodes.specs.Nodes.{done_of}
use Rattle.rules.specs.ModuleFile.{labels}
use Prim.Native.Nat.{◌-◌}
use lib.ListN.{length}
use mathlib.Core.Path.{◌≡◌}
use Rattle.checker.proofs.bodies.drain.Given as goal

abbrev pub invariant-loop-k : goal.invariant-loop-k
invariant-loop-k g l = Draining l.file l.table l.owner l.initial.room l.initial.marks l.room l.marks × (length l.st ≡ length l.initial.st)

abbrev pub decreases-loop-k : goal.decreases-loop-k
decreases-loop-k g l = labels l.file - done_of l.marks
