-- The invariants and measures of `rechecker::flags::flags`.
use Rattle.rechecker.specs.Flags.{flagged}
use Rattle.rules.specs.ModuleFile.{read}
use lib.ListN.{length}
use Prim.Native.Nat.{◌≤◌, ◌-◌}
use mathlib.Core.Path.{◌≡◌}
use Rattle.rechecker.proofs.flags.flags.Given as goal

abbrev pub invariant-loop-i : goal.invariant-loop-i
invariant-loop-i l = (l.from ≤ l.i) × (l.i ≤ l.to) × (l.beside ≡ flagged (read l.file) l.initial.beside l.from (l.i - l.from)) × (length l.beside ≡ length l.initial.beside) × (length l.room ≡ length l.initial.room)
