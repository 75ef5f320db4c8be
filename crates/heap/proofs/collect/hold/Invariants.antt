-- The invariants and measures of `heap::collect::hold`.
use Rattle.heap.specs.Holds.{Holding}
use Rattle.heap.specs.Blocks.{entry_at}
use Rattle.rules.specs.Stack.{slots_of}
use mathlib.Core.Path.{◌≡◌}
use lib.ListN.{length}
use Rattle.heap.proofs.collect.hold.Given as goal

abbrev pub invariant-loop-i : goal.invariant-loop-i
invariant-loop-i l = Holding l.u (entry_at l.t) l.count (slots_of l.sp l.st l.i) × (length l.u ≡ length l.initial.u)
