-- The invariant of `reader::blocks::mark_block`.
use mathlib.Core.Path.{◌≡◌}
use lib.ListN.{length}
use Rattle.reader.specs.Cut.{marks}
use Rattle.reader.proofs.blocks.mark_block.Given as goal

abbrev pub invariant-loop-i : goal.invariant-loop-i
invariant-loop-i l = (l.starts ≡ marks l.initial.starts l.p l.i) × (length l.starts ≡ length l.initial.starts)
