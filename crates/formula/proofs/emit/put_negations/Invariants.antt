-- The invariant of `formula::emit::put_negations`.
use lib.ListN.{length, take, replicate}
use mathlib.Core.List.{◌++◌}
use mathlib.Core.Path.{◌≡◌}
use Prim.Native.Nat.{◌+◌, ◌≤◌}
use Rattle.formula.proofs.emit.put_negations.Given as goal

abbrev pub invariant-loop-i : goal.invariant-loop-i
invariant-loop-i l = (l.i ≤ l.n) × (length l.code ≡ length l.initial.code) × (take (l.«at» + l.i) l.code ≡ take l.«at» l.initial.code ++ replicate l.i 19)
