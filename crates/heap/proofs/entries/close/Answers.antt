use Rattle.heap.proofs.Stores.{closing_none, closing_more, closed}
use native.Mathlib.Omega.{arith}
use Rattle.heap.proofs.entries.close.Goals as goal

pub loop-j-init : goal.loop-j-init
loop-j-init c = (closing_none c.args.t.now c.args.i)

pub entry_at-e-requires : goal.entry_at-e-requires
entry_at-e-requires c = omega (arith, c.loop-j.invariant.same_length)

pub put_entry-requires : goal.put_entry-requires
put_entry-requires c = omega (arith, c.loop-j.invariant.same_length)

pub loop-j-preserved : goal.loop-j-preserved
loop-j-preserved c = (closing_more c.args.i c.loop-j.j c.entry_at-e.result (omega arith) c.loop-j.invariant c.entry_at-e.ensures c.put_entry.ensures)

pub put_entry-requires-2 : goal.put_entry-requires-2
put_entry-requires-2 c = omega (arith, c.loop-j.invariant.same_length)

pub shape_of-t : goal.shape_of-t
shape_of-t c = (closed c.args.i c.loop-j.j c.args.last c.requires.0 (omega arith) c.loop-j-test.false c.loop-j.invariant c.put_entry-2.ensures).same_length

pub returns : goal.returns
returns c = closed c.args.i c.loop-j.j c.args.last c.requires.0 (omega arith) c.loop-j-test.false c.loop-j.invariant c.put_entry-2.ensures
