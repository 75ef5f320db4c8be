use Rattle.heap.proofs.Stores.{cleared_all}
use Rattle.heap.proofs.Stores.{cleared_none, cleared_more}
use native.Mathlib.Omega.{arith}
use Rattle.heap.proofs.cells.clear.Goals as goal

pub loop-c-init : goal.loop-c-init
loop-c-init c = (cleared_none c.args.p.now c.args.a)

pub put_cell-requires : goal.put_cell-requires
put_cell-requires c = omega (arith, c.loop-c.invariant.within.same_length)

pub loop-c-preserved : goal.loop-c-preserved
loop-c-preserved c = (cleared_more c.args.a c.loop-c.c (omega arith) c.loop-c.invariant c.put_cell.ensures)

pub shape_of-p : goal.shape_of-p
shape_of-p c = c.loop-c.invariant.within.same_length

pub returns : goal.returns
returns c = cleared_all c.args.a c.args.b c.loop-c.c (omega arith) c.loop-c-test.false c.loop-c.invariant
