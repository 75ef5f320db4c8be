-- The invariants and measures of `reporter::calls::all`.
use mathlib.Core.Path.{◌≡◌}
use Prim.Native.Nat.{◌≤◌, ◌-◌}
use lib.ListN.{length}
use Rattle.rules.specs.Tables.{body_of}
use Rattle.settle.specs.Graph.{row_of}
use Rattle.reporter.specs.Rows.{Filled}
use Rattle.reporter.proofs.calls.all.Given as goal

abbrev pub invariant-loop-i : goal.invariant-loop-i
invariant-loop-i l = (body_of l.owner ≡ row_of l.i) × (l.i ≤ l.c.functions) × Filled l.file l.c.functions l.i l.own l.offsets l.marks l.grounds × (length l.offsets ≡ length l.initial.offsets)

abbrev pub decreases-loop-i : goal.decreases-loop-i
decreases-loop-i l = l.c.functions - l.i
