-- The invariant of `formula::scan::scan_line`.
use Rattle.formula.specs.Scans.{Legal, state_of}
use Rattle.grammar.specs.Scan.{scanned, at_start}
use lib.ListN.{length, take}
use Prim.Native.Nat.{◌≤◌}
use mathlib.Core.Option.{some}
use mathlib.Core.Path.{◌≡◌}
use Rattle.formula.proofs.scan.scan_line.Given as goal

abbrev pub invariant-loop-i : goal.invariant-loop-i
invariant-loop-i l = (l.i ≤ length l.line) × Legal l.«at» × (l.«at».brackets ≤ l.i) × (scanned at_start (take l.i l.line) ≡ some (state_of l.«at»))
