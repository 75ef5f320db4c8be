-- The invariants and measures of `climb::waits::first`.
use Prim.Native.Nat.{ℕ, ◌≤◌, ◌<◌}
use mathlib.Core.Logic.{◌≢◌}
use Rattle.tracks.specs.Walks.{mark_of}
use Rattle.climb.proofs.waits.first.Given as goal

abbrev pub invariant-loop-i : goal.invariant-loop-i
invariant-loop-i l = (n : ℕ) → l.low ≤ n → n < l.i → mark_of l.marks n ≢ 1
