use mathlib.Core.Path.{refl}
use Rattle.heap.proofs.Made.{removing, end_inside}
use native.Mathlib.Omega.{arith}
use Rattle.heap.proofs.blocks.remove.Goals as goal

pub overflow_add-end : goal.overflow_add-end
overflow_add-end c = omega (arith, end_inside _ _ _ _ _ c.requires.0 _ _ _ c.requires.1 c.entry_at-e.ensures c.width-n.ensures.0, c.requires.0.small)

pub clear-requires : goal.clear-requires
clear-requires c = omega (arith, end_inside _ _ _ _ _ c.requires.0 _ _ _ c.requires.1 c.entry_at-e.ensures c.width-n.ensures.0, c.requires.0.room_cells)

pub returns : goal.returns
returns c = (removing _ _ _ _ _ c.requires.0 _ _ _ _ _ _ _ c.requires.1 c.entry_at-e.ensures c.width-n.ensures.0 c.clear.ensures c.close.ensures (omega (arith, c.min.ensures), omega (arith, c.min.ensures)) c.lowered.ensures, record { closed = c.close.ensures; one_less = refl; same_next = refl })
