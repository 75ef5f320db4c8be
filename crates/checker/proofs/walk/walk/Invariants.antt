-- The invariants and measures of `checker::walk::walk`.
use Rattle.checker.proofs.Walking.{Walking}
use Rattle.nodes.specs.Nodes.{done_of}
use Prim.Native.Nat.{◌-◌}
use mathlib.Core.Path.{◌≡◌}
use Rattle.checker.proofs.walk.walk.Given as goal

abbrev pub invariant-loop-key : goal.invariant-loop-key
invariant-loop-key l = Walking l.file l.table l.owner l.p l.initial.st l.initial.room l.initial.marks l.«at» l.st l.room l.marks × (done_of l.marks ≡ done_of l.initial.marks)

abbrev pub decreases-loop-key : goal.decreases-loop-key
decreases-loop-key l = l.e - l.«at»
