-- The invariants and measures of `settle::next_call`.
use Rattle.settle.specs.Graph.{offset_at}
use mathlib.Core.Path.{◌≡◌}
use Prim.Native.Nat.{ℕ, ◌≤◌, ◌<◌}
use Rattle.settle.proofs.next_call.Given as goal

abbrev pub invariant-loop-i : goal.invariant-loop-i
invariant-loop-i l = (j : ℕ) → l.k ≤ j → j < l.i → offset_at l.offsets l.b j ≡ 0
