-- The invariants and measures of `nodes::table::fill`.
use Rattle.nodes.proofs.Numbering.{Filled}
use Rattle.rules.specs.ModuleFile.{labels}
use lib.ListN.{length}
use mathlib.Core.Path.{◌≡◌}
use Prim.Native.Nat.{◌≤◌}
use Rattle.nodes.proofs.table.fill.Given as goal

abbrev pub invariant-loop-i : goal.invariant-loop-i
invariant-loop-i l = (l.i ≤ labels l.file) × Filled l.file l.i l.table × (length l.table ≡ length l.initial.table)
