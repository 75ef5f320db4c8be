use Rattle.heap.proofs.Marks.{risen_none, risen_more}
use Rattle.heap.proofs.rooms.rise.Goals as goal
use mathlib.Core.Path.{◌≡◌}
use native.Mathlib.Omega.{arith}

pub loop-x-init : goal.loop-x-init
loop-x-init c = risen_none c.args.u.now c.args.low c.args.top c.requires.0

pub returns-then-u-x-eq0 : goal.returns-then-u-x-eq0
returns-then-u-x-eq0 c = c.loop-x.invariant

pub loop-x-preserved : goal.loop-x-preserved
loop-x-preserved c = risen_more c.loop-x.invariant c.loop-x-test.true c.if-u-x-eq0.false

pub returns : goal.returns
returns c = let e : c.loop-x.x ≡ c.args.top = omega arith in rw e at c.loop-x.invariant
