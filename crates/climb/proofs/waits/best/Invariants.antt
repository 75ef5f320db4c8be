-- The invariants and measures of `climb::waits::best`.
use Prim.Native.Nat.{◌<◌}
use mathlib.Core.Path.{◌≡◌}
use Rattle.tracks.specs.Walks.{mark_of}
use Rattle.climb.proofs.waits.best.Given as goal

abbrev pub invariant-loop-i : goal.invariant-loop-i
invariant-loop-i l = (mark_of l.marks l.found ≡ 1) × (l.found < 256)
