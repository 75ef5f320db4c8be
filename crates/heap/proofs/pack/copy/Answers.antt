-- The proof of `heap::pack::copy`.
use Rattle.heap.proofs.Packing.{copied_none, copied_more, copied_all}
use native.Mathlib.Omega.{arith}
use Rattle.heap.proofs.pack.copy.Goals as goal

pub loop-i-init : goal.loop-i-init
loop-i-init c =
    (copied_none c.args.p.now c.args.a c.args.q.now c.args.b)

pub put_cell-requires : goal.put_cell-requires
put_cell-requires c =
    omega (arith, c.loop-i.invariant.within.same_length)

pub loop-i-preserved : goal.loop-i-preserved
loop-i-preserved c =
    (copied_more c.args.p.now c.args.a c.args.q.now c.args.b c.loop-i.i c.cell_at-x.result c.loop-i.invariant c.cell_at-x.ensures.0 c.put_cell.ensures)

pub shape_of-p : goal.shape_of-p
shape_of-p c = c.loop-i.invariant.within.same_length

pub returns : goal.returns
returns c =
    copied_all c.args.a c.args.b c.loop-i.i c.args.n (omega arith) c.loop-i-test.false c.loop-i.invariant
