-- The invariants and measures of `settle::join`.
use Rattle.settle.specs.Graph.{offset_at, Joined}
use Prim.Native.Nat.{◌≤◌, ◌<◌, ◌-◌}
use Rattle.settle.proofs.join.Given as goal

abbrev pub invariant-loop-k : goal.invariant-loop-k
invariant-loop-k l = (l.k ≤ l.n) × (l.k < l.n → 0 < offset_at l.offsets l.b l.k) × Joined l.own l.offsets l.need l.frames l.b l.k l.x l.y

abbrev pub decreases-loop-k : goal.decreases-loop-k
decreases-loop-k l = l.n - l.k
