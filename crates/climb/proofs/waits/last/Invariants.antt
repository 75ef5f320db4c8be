-- The invariants and measures of `climb::waits::last`.
use Prim.Native.Nat.{ℕ, ◌≤◌, ◌<◌}
use mathlib.Core.Logic.{◌≢◌}
use Rattle.tracks.specs.Walks.{mark_of}
use Rattle.climb.proofs.waits.last.Given as goal

abbrev pub invariant-loop-i : goal.invariant-loop-i
invariant-loop-i l = (n : ℕ) → l.i ≤ n → n < l.high → mark_of l.marks n ≢ 1
