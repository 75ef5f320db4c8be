-- The invariants and measures of `nodes::finish::finish`.
use mathlib.Core.Path.{◌≡◌}
use lib.ListN.{length}
use Prim.Native.Nat.{◌≤◌}
use Rattle.rules.specs.ModuleFile.{labels}
use Rattle.nodes.specs.Nodes.{Finished}
use Rattle.nodes.proofs.finish.finish.Given as goal

abbrev pub invariant-loop-i : goal.invariant-loop-i
invariant-loop-i l = (l.i ≤ labels l.file) × Finished l.file l.table l.marks l.i l.initial.room l.room × (length l.st ≡ length l.initial.st)
