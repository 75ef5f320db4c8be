-- The proof of `heap::pack::gather`.
use Rattle.heap.proofs.Packing.{gathered_none, gathered_more, gathered_all, gather_room}
use native.Mathlib.Omega.{arith}
use Rattle.heap.proofs.pack.gather.Goals as goal

pub loop-i-init : goal.loop-i-init
loop-i-init c =
    (gathered_none _ _ _ _ c.requires.size_in_bounds.1)

pub entry_at-e-requires : goal.entry_at-e-requires
entry_at-e-requires c =
    omega (arith, c.requires.sane.few, c.requires.sane.room_table, c.loop-i.invariant.same_length)

pub copy-requires : goal.copy-requires
copy-requires c =
    let q = gather_room _ _ _ _ _ c.requires.sane _ _ _ _ c.loop-i.invariant c.requires.size_in_bounds.0 c.loop-i-test.true _ _ c.entry_at-e.ensures c.width-n.ensures.0 in (q.0, q.1)

pub put_entry-requires : goal.put_entry-requires
put_entry-requires c =
    omega (arith, c.requires.sane.few, c.requires.sane.room_table, c.loop-i.invariant.same_length)

pub overflow_add-at : goal.overflow_add-at
overflow_add-at c =
    let q = gather_room _ _ _ _ _ c.requires.sane _ _ _ _ c.loop-i.invariant c.requires.size_in_bounds.0 c.loop-i-test.true _ _ c.entry_at-e.ensures c.width-n.ensures.0 in omega (arith, q.2, c.requires.sane.small)

pub loop-i-preserved : goal.loop-i-preserved
loop-i-preserved c =
    (gathered_more _ _ _ c.loop-i.i c.loop-i.at c.loop-i.invariant c.entry_at-e.result c.width-n.result c.entry_at-e.ensures c.width-n.ensures.0 c.copy.ensures c.put_entry.ensures)

pub shape_of-t : goal.shape_of-t
shape_of-t c =
    c.loop-i.invariant.same_length

pub shape_of-s : goal.shape_of-s
shape_of-s c =
    c.loop-i.invariant.room

pub returns : goal.returns
returns c =
    gathered_all c.loop-i.i _ (omega arith) c.loop-i-test.false c.loop-i.invariant
