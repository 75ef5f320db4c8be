use Rattle.heap.proofs.Marks.{filled_none, filled_more, filled_all}
use native.Mathlib.Omega.{arith}
use Rattle.heap.proofs.rooms.fill.Goals as goal

pub loop-x-init : goal.loop-x-init
loop-x-init c = (filled_none c.args.u.now c.args.a)

pub bounds-u-x : goal.bounds-u-x
bounds-u-x c = omega (arith, c.loop-x.invariant.same_length)

pub loop-x-preserved : goal.loop-x-preserved
loop-x-preserved c = (filled_more c.args.a c.loop-x.x (omega arith) (omega (arith, c.loop-x.invariant.same_length)) c.loop-x.invariant)

pub shape_of-u : goal.shape_of-u
shape_of-u c = c.loop-x.invariant.same_length

pub returns : goal.returns
returns c = filled_all c.args.a c.args.b c.loop-x.x (omega arith) c.loop-x-test.false c.loop-x.invariant
