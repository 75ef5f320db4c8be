-- The invariants and measures of `desk::text::put_slots`.
use Prim.Native.Nat.{◌≤◌, ◌*◌}
use lib.ListN.{length}
use mathlib.Core.Path.{◌≡◌}
use Rattle.desk.specs.Text.{Adds}
use Rattle.rules.specs.Program.{slot_lines}
use Rattle.desk.proofs.text.put_slots.Given as goal

abbrev pub invariant-loop-i : goal.invariant-loop-i
invariant-loop-i l = (l.i ≤ l.h) × (length l.out ≡ length l.initial.out) × Adds (42 * l.i) l.initial.out l.«at» (slot_lines l.p l.t l.i) l.out l.e
