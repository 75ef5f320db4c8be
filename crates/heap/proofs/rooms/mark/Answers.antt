use Rattle.heap.proofs.Marks.{marked_all}
use Rattle.heap.proofs.Places.{end_below}
use Rattle.heap.proofs.Marks.{marked_none, marked_more}
use Rattle.heap.specs.Blocks.{entry_at, width_in}
use native.Mathlib.Omega.{arith}
use Rattle.heap.proofs.rooms.mark.Goals as goal

pub loop-i-init : goal.loop-i-init
loop-i-init c = (marked_none c.args.u.now (width_in c.args.d.now) (entry_at c.args.t.now) c.requires.u_len.0 c.requires.u_len.1)

pub overflow_add-first : goal.overflow_add-first
overflow_add-first c = omega (arith, end_below (width_in c.args.d.now) (entry_at c.args.t.now) c.loop-i.i c.entry_at-e.result c.width-n.result 4096 c.entry_at-e.ensures c.width-n.ensures.0 (c.requires.count_in_bounds.1 c.loop-i.i c.loop-i-test.true))

pub fill-requires : goal.fill-requires
fill-requires c = omega (arith, c.loop-i.invariant.room, end_below (width_in c.args.d.now) (entry_at c.args.t.now) c.loop-i.i c.entry_at-e.result c.width-n.result 4096 c.entry_at-e.ensures c.width-n.ensures.0 (c.requires.count_in_bounds.1 c.loop-i.i c.loop-i-test.true))

pub loop-i-preserved : goal.loop-i-preserved
loop-i-preserved c = (marked_more (width_in c.args.d.now) (entry_at c.args.t.now) c.loop-i.i c.entry_at-e.result c.width-n.result c.loop-i.invariant c.entry_at-e.ensures c.width-n.ensures.0 c.fill.ensures)

pub shape_of-u : goal.shape_of-u
shape_of-u c = omega (arith, c.loop-i.invariant.room, c.requires.u_len.0)

pub returns : goal.returns
returns c = marked_all c.loop-i.i c.args.count (omega arith) c.loop-i-test.false c.loop-i.invariant
