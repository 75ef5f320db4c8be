-- The invariants of `writer::put_section`.
use Prim.Native.Nat.{◌*◌, ◌≤◌}
use mathlib.Core.List.{◌++◌}
use mathlib.Core.Path.{◌≡◌}
use lib.ListN.{length, take, drop}
use Rattle.writer.proofs.put_section.Given as goal

abbrev pub invariant-loop-i : goal.invariant-loop-i
invariant-loop-i l = (l.i ≤ l.n) × (l.out ≡ take l.i l.table ++ drop l.i l.initial.out) × (length l.out ≡ length l.initial.out)

abbrev pub invariant-loop-k : goal.invariant-loop-k
invariant-loop-k l = (64 * l.k ≤ l.n) × (l.out ≡ take (64 * l.k) l.table ++ drop (64 * l.k) l.initial.out) × (length l.out ≡ length l.initial.out)

abbrev pub invariant-loop-j : goal.invariant-loop-j
invariant-loop-j l = (8 * l.j ≤ l.n) × (l.out ≡ take (8 * l.j) l.table ++ drop (8 * l.j) l.initial.out) × (length l.out ≡ length l.initial.out)
