use Rattle.heap.proofs.Marks.{gap_start, gap_zero, gap_used, gap_found, gap_none}
use native.Mathlib.Omega.{arith}
use Rattle.heap.proofs.rooms.gap.Goals as goal
use Rattle.heap.proofs.rooms.gap.Goals.{then-u-x-eq0+else-run-n, else-u-x-eq0}

pub loop-x-init : goal.loop-x-init
loop-x-init c = gap_start c.args.u.now c.args.low c.args.n c.requires.2

pub overflow_add-run : goal.overflow_add-run
overflow_add-run c = omega (arith, c.loop-x.invariant.from, c.loop-x.invariant.short)

pub overflow_sub-result : goal.overflow_sub-result
overflow_sub-result c = omega (arith, c.loop-x.invariant.from)

pub returns-then-run-n : goal.returns-then-run-n
returns-then-run-n c = gap_found c.loop-x.invariant c.args.size c.loop-x-test.true c.if-u-x-eq0.true c.if-run-n.true

pub overflow_add-run-then-u-x-eq0 : goal.overflow_add-run-then-u-x-eq0
overflow_add-run-then-u-x-eq0 c = omega (arith, c.loop-x.invariant.from, c.loop-x.invariant.short)

pub loop-x-preserved : goal.loop-x-preserved
loop-x-preserved c =
    elim c.if-u-x-eq0.branch [
      | then-u-x-eq0+else-run-n w ↦ rw w.run-is (gap_zero c.loop-x.invariant w.if-u-x-eq0.true w.if-run-n.false)
      | else-u-x-eq0 w ↦ rw w.run-is (gap_used c.loop-x.invariant w.if-u-x-eq0.false)
    ]

pub returns : goal.returns
returns c = gap_none c.loop-x.invariant c.args.size c.loop-x-test.false
